-- `cleared_by`: severity, state and both times of a clear, and no end.
use mathlib.Core.Path.{◌∙◌, ap}
use Rattle.definition.specs.Alarm.{late}
use Rattle.changes.specs.ChangeLaws.{cleared}
use Rattle.changes.proofs.cleared_by.Goals as goal

pub returns : goal.returns
returns c =
    cleared _ c.requires _ _ _ _ _ _ _ (c.late-t.ensures ∙ ap (late c.args.time) c.raised_at.ensures)
    c.set_severity.ensures.alarm c.set_state.ensures.alarm c.set_updated.ensures.alarm c.set_cleared.ensures.alarm c.no_end.ensures.alarm
