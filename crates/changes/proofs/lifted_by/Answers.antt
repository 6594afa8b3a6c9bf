-- `lifted_by`: state and time of an alarm whose suppression is over, and no end.
use mathlib.Core.Path.{◌∙◌, ap}
use Rattle.definition.specs.Alarm.{late}
use Rattle.changes.specs.ChangeLaws.{lifted}
use Rattle.changes.proofs.lifted_by.Goals as goal

pub returns : goal.returns
returns c =
    lifted _ c.requires _ _ _ _ _ (c.late-t.ensures ∙ ap (late c.args.cutoff) c.raised_at.ensures)
    c.set_state.ensures.alarm c.set_updated.ensures.alarm c.no_end.ensures.alarm
