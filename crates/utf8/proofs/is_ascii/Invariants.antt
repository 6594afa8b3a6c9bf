-- The bytes passed, joined by or, are below 128 where each of them is.
use mathlib.Core.Path.{◌≡◌}
use lib.Dec.{ltb}
use lib.ListN.{take}
use Rattle.utf8.specs.Meaning.{plain}
use Rattle.utf8.proofs.is_ascii.Given as goal

abbrev pub invariant-loop-b : goal.invariant-loop-b
invariant-loop-b l = ltb l.joined 128 ≡ plain (take l.b-index l.s)
