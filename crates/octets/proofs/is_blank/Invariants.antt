-- `is_blank`: the or of the bytes passed is zero where they all are.
use mathlib.Core.Path.{◌≡◌}
use lib.Dec.{eqb}
use lib.ListN.{take}
use Rattle.octets.specs.Bytes.{blank}
use Rattle.octets.proofs.is_blank.Given as goal

abbrev pub invariant-loop-byte : goal.invariant-loop-byte
invariant-loop-byte l = eqb l.joined 0 ≡ blank (take l.byte-index l.s)
