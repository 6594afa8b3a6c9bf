-- `lift_at`: the payload is taken out, changed and goes into history.
use borrow.Author.Rules.{rules}
use Rattle.definition.proofs.Laws.Steps.ChangedLegal.{lifted_legal}
use Rattle.definition.specs.Steps.{revise, lifted_by}
use Rattle.expiry.specs.SweepLaws.{taken_payload, taken_files}
use Rattle.expiry.proofs.lift_at.Goals as goal

pub load-p-requires : goal.load-p-requires
load-p-requires c = (c.requires.0.whole, c.requires.1)

pub lifted_by-requires : goal.lifted_by-requires
lifted_by-requires c = c.load-p.ensures.1

pub revise-requires : goal.revise-requires
revise-requires c =
    (c.requires.0, c.requires.1, (taken_payload _ _ _ _ (lifted_by c.args.cutoff) _ c.requires.0.whole c.requires.1 (lifted_legal c.args.cutoff _ (search rules)) c.load-p.ensures.0 c.lifted_by.ensures).0)

pub returns : goal.returns
returns c =
    taken_files _ _ _ _ (lifted_by c.args.cutoff) _ c.requires.0.whole c.requires.1 (lifted_legal c.args.cutoff _ (search rules)) c.load-p.ensures.0 c.lifted_by.ensures (revise c.args.i) _ _ c.revise.ensures
