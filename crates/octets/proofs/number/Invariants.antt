-- `number`: the number of the bytes passed, with the others still to be read behind it.
use mathlib.Core.Path.{◌≡◌}
use Prim.Native.Nat.{◌^◌, ◌<◌}
use lib.ListN.{drop}
use Rattle.octets.specs.Bytes.{value_from}
use Rattle.octets.proofs.number.Given as goal

abbrev pub invariant-loop-byte : goal.invariant-loop-byte
invariant-loop-byte l = (l.v < 256 ^ l.byte-index) × (value_from l.v (drop l.byte-index l.s) ≡ value_from 0 l.s)
