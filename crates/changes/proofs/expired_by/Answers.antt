-- `expired_by`: state and both times of an expiry, and no end.
use Rattle.changes.specs.ChangeLaws.{expired}
use Rattle.changes.proofs.expired_by.Goals as goal

pub returns : goal.returns
returns c =
    expired _ c.requires _ _ _ _ _ c.set_state.ensures.alarm c.set_updated.ensures.alarm c.set_cleared.ensures.alarm c.no_end.ensures.alarm
