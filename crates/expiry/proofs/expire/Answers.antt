-- `expire`: the sweep, and its number.
use Rattle.expiry.specs.SweepLaws.{expires_all}
use Rattle.expiry.proofs.expire.Goals as goal

pub returns : goal.returns
returns c =
    expires_all _ _ _ _ _ _ _ c.requires.0.whole c.put_number.ensures c.sweep-n.ensures
