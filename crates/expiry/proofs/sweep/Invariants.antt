-- `sweep`: along the active chain, from its first record to its last.
use mathlib.Core.Path.{◌≡◌}
use lib.ListN.{length}
use Rattle.expiry.specs.Sweep.{Sweep}
use Rattle.expiry.proofs.sweep.Given as goal

abbrev pub invariant-loop-k : goal.invariant-loop-k
invariant-loop-k l = Sweep l.round l.cutoff l.initial.register l.register l.n l.at l.s l._k × (length l.register ≡ length l.initial.register)
