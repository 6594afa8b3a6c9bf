-- `end` is behind the last byte passed that stays; what lies between `end` and i is white space.
use mathlib.Core.Path.{◌≡◌}
use Prim.Native.Nat.{◌-◌, ◌≤◌}
use lib.ListN.{length}
use Rattle.definition.specs.White.{end_from}
use Rattle.cause.proofs.Trim.{up_to}
use Rattle.cause.proofs.white.trim_end.Given as goal

abbrev pub invariant-loop-i : goal.invariant-loop-i
invariant-loop-i l = (l.end ≤ l.i) × (l.i ≤ length l.s) × (end_from 0 l.s ≡ up_to l.s l.end l.i)

abbrev pub decreases-loop-i : goal.decreases-loop-i
decreases-loop-i l = length l.s - l.i
