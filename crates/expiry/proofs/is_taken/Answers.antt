-- `is_taken`: by the round.
use Rattle.expiry.proofs.is_taken.Goals as goal

pub returns-in-Expire : goal.returns-in-Expire
returns-in-Expire c = rw c.in-Expire.is c.is_due.ensures

pub returns-in-Lift : goal.returns-in-Lift
returns-in-Lift c = rw c.in-Lift.is c.is_over.ensures
