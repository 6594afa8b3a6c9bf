-- White space is passed from the start on; what is left trims to the same.
use mathlib.Core.Path.{◌≡◌}
use Prim.Native.Nat.{◌-◌, ◌≤◌}
use lib.ListN.{length, drop}
use Rattle.definition.specs.White.{start_from}
use Rattle.cause.proofs.white.trim_start.Given as goal

abbrev pub invariant-loop-n : goal.invariant-loop-n
invariant-loop-n l = (l.start ≤ length l.s) × (start_from 0 (drop l.start l.s) ≡ start_from 0 l.s)

abbrev pub decreases-loop-n : goal.decreases-loop-n
decreases-loop-n l = length l.s - l.start
