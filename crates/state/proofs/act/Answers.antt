-- `act`: the payload is taken out, changed and put back; the answer is the alarm.
use borrow.Author.Rules.{rules}
use mathlib.Core.Path.{ap, ◌∙◌}
use Rattle.model.specs.Meaning.{deed_of}
use Rattle.state.specs.Meaning.{action_code}
use Rattle.state.specs.ActLaws.{acted_payload, acts}
use Rattle.state.proofs.act.Goals as goal

pub load-p-requires : goal.load-p-requires
load-p-requires c = (c.requires.0.whole, c.requires.1)

pub acted_on-requires : goal.acted_on-requires
acted_on-requires c = c.load-p.ensures.1

pub revise-requires : goal.revise-requires
revise-requires c =
    (c.requires.0, c.requires.1, (acted_payload _ _ _ _ (deed_of c.args.deed) _ c.requires.0.whole c.requires.1 c.requires.2 (search rules) c.load-p.ensures.0 c.acted_on.ensures).0)

pub returns : goal.returns
returns c =
    acts _ _ _ _ (deed_of c.args.deed) _ c.requires.0.whole c.requires.1 c.requires.2 (search rules) c.load-p.ensures.0 c.acted_on.ensures
    _ _ _ _ _ _ c.revise.ensures (c.from.ensures ∙ c.code_of-code.ensures ∙ ap action_code c.action_of.ensures) c.put_alarm.ensures
