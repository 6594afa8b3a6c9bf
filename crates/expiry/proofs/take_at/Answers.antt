-- `take_at`: by the round.
use Rattle.expiry.proofs.take_at.Goals as goal

pub lift_at-requires : goal.lift_at-requires
lift_at-requires c = (c.requires.0, c.requires.1.on)

pub returns-in-Expire : goal.returns-in-Expire
returns-in-Expire c = rw c.in-Expire.is c.expire_at.ensures

pub returns-in-Lift : goal.returns-in-Lift
returns-in-Lift c = rw c.in-Lift.is c.lift_at.ensures
