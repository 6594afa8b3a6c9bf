-- `step`: soundness first, and then the call.
use Rattle.std.proofs.Common.{subst, sym, length, arith}
use Rattle.definition.specs.Value.{CallValue}
use Rattle.definition.specs.Clauses.LegalFields.{LegalCall}
use Rattle.definition.specs.Perform.{perform}
use Rattle.definition.proofs.Laws.Text.ParsedLegal.{call_legal}
use Rattle.reply.specs.Meaning.{Replies}
use Rattle.station.specs.StepLaws.{stepped, unsound}
use Rattle.station.proofs.step.Goals as goal

pub returns-in_default : goal.returns-in_default
returns-in_default c =
    unsound c.args.register.now c.args.call.now c.args.answer.now c.in_default.ensures

pub perform-requires : goal.perform-requires
perform-requires c =
    record {
      standing = c.in-Some.ensures;
      within = c.parse.ensures.means.1;
      legal = subst (λ (v : CallValue). LegalCall v) (sym c.parse.ensures.means.0) (call_legal c.args.call.now (λ i. omega (arith, c.shared_slice_known-1.given i)));
    }

pub returns : goal.returns
returns c =
    stepped c.perform.result c.args.register.now c.args.call.now c.args.answer.now c.perform.new.answer c.perform.new.register c.in-Some.ensures.whole
    (subst (λ (v : CallValue). Replies c.perform.result (perform v (length c.args.answer.now)) c.args.register.now c.perform.new.register c.args.answer.now c.perform.new.answer) c.parse.ensures.means.0 c.perform.ensures)
