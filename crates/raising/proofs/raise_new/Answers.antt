-- `raise_new`: a full chain is answered with its limit.
use mathlib.Core.Path.{◌∙◌}
use native.Mathlib.Omega.{arith}
use Rattle.history.specs.StandingLaws.{standing_room}
use Rattle.definition.proofs.Laws.Steps.SoundChains.{active_limit, active_length_lem}
use Rattle.raise_fields.specs.Meaning.{raise_value}
use Rattle.reply.specs.Meaning.{numbered}
use Rattle.raising.specs.RaiseLaws.{limit_met, has_room}
use Rattle.raising.proofs.raise_new.Goals as goal

pub limit-limit-requires : goal.limit-limit-requires
limit-limit-requires c = (c.requires.standing.whole, omega arith)

pub held-requires : goal.held-requires
held-requires c = c.requires.standing.whole

pub returns-then-limit-held : goal.returns-then-limit-held
returns-then-limit-held c =
    limit_met (raise_value c.args.call.now c.args.r) _ c.args.register.now c.requires.standing.whole _ _ _ _ (c.limit-limit.ensures ∙ active_limit c.args.register.now c.requires.standing.whole)
    (omega (arith, c.if-limit-held.true, c.limit-limit.ensures, c.held.ensures, active_limit c.args.register.now c.requires.standing.whole, active_length_lem c.args.register.now c.requires.standing.whole)) c.put_limit.ensures

pub insert-requires : goal.insert-requires
insert-requires c =
    (c.requires, standing_room c.requires.standing (omega (arith, c.if-limit-held.false, c.limit-limit.ensures, c.held.ensures, active_limit c.args.register.now c.requires.standing.whole, active_length_lem c.args.register.now c.requires.standing.whole)))

pub returns : goal.returns
returns c =
    has_room (raise_value c.args.call.now c.args.r) c.args.key.now c.args.register.now c.requires.standing.whole (numbered c.insert.result) c.insert.new.register c.args.answer.now c.insert.new.answer
    (omega (arith, c.if-limit-held.false, c.limit-limit.ensures, c.held.ensures, active_limit c.args.register.now c.requires.standing.whole, active_length_lem c.args.register.now c.requires.standing.whole)) c.insert.ensures
