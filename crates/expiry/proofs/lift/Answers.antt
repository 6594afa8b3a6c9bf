-- `lift`: the sweep, and its number.
use Rattle.expiry.specs.SweepLaws.{lifts_all}
use Rattle.expiry.proofs.lift.Goals as goal

pub returns : goal.returns
returns c =
    lifts_all _ _ _ _ _ _ _ c.requires.0.whole c.put_number.ensures c.sweep-n.ensures
