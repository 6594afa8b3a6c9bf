-- `put_hex` meets its contract: the digits of the bytes passed are in their place.
use mathlib.Core.Path.{◌≡◌}
use lib.ListN.{take}
use Rattle.octets.specs.Bytes.{splice}
use Rattle.definition.specs.Key.{hex}
use Rattle.key.proofs.put_hex.Given as goal

abbrev pub invariant-loop-i : goal.invariant-loop-i
invariant-loop-i l = l.answer ≡ splice l.initial.answer l.at (hex (take l.i l.key))
