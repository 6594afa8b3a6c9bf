-- `has_ended`: an end that is there is compared.
use mathlib.Core.Path.{ap}
use mathlib.Core.Bool.{not}
use Rattle.expiry.proofs.has_ended.Goals as goal

pub returns-in-None : goal.returns-in-None
returns-in-None c = rw c.in-None.is

pub returns-in-Some : goal.returns-in-Some
returns-in-Some c = rw c.in-Some.is (ap not c.is_before.ensures)
