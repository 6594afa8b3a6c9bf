-- The bytes passed are the same where the or of what they differ in is zero.
use mathlib.Core.Path.{◌≡◌}
use mathlib.Core.Bool.{◌&&◌}
use lib.Dec.{eqb}
use lib.ListN.{length, drop}
use Rattle.octets.specs.Bytes.{same}
use Rattle.cause.proofs.names.is_text.Given as goal

abbrev pub invariant-loop-x : goal.invariant-loop-x
invariant-loop-x l = eqb l.difference 0 && same (drop (length l.yielded) l.text) (drop (length l.yielded) l.s) ≡ same l.text l.s
