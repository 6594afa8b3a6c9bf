-- The order of the signed numbers is that of their bits, once the least time's are added.
use Rattle.std.proofs.Common.{arith}
use Rattle.std.proofs.lemmas.Int.{ints}
use Rattle.std.proofs.lemmas.Bool.Decides.{nat_tests}
use Rattle.definition.specs.Alarm.{before}
use Rattle.time.proofs.is_before.Goals as goal

pub returns : goal.returns
unfolding before
returns c = grind (arith, ints, nat_tests)
