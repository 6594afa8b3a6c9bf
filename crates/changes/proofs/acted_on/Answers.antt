-- `acted_on`: state, time and end of the action.
use mathlib.Core.Path.{◌∙◌, ap}
use Rattle.definition.specs.Alarm.{late}
use Rattle.definition.specs.Steps.{action_state}
use Rattle.model.specs.Meaning.{deed_of}
use Rattle.changes.specs.ChangeLaws.{acted}
use Rattle.changes.proofs.acted_on.Goals as goal

pub returns : goal.returns
returns c =
    acted _ c.requires (deed_of c.args.deed) _ _ _ _ _ _ (c.from.ensures ∙ c.from-state.ensures ∙ ap action_state c.action_of.ensures) (c.late-t.ensures ∙ ap (late c.args.time) c.raised_at.ensures)
    c.set_state.ensures.alarm c.set_updated.ensures.alarm c.set_end.ensures
