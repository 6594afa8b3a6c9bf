-- At each place the bytes left are a run where s is one.
use mathlib.Core.Path.{◌≡◌}
use lib.ListN.{length}
use Rattle.definition.specs.Utf8.{utf8}
use Rattle.utf8.proofs.is_run.Given as goal

abbrev pub invariant-loop-n : goal.invariant-loop-n
invariant-loop-n l = utf8 l.rest ≡ utf8 l.s

abbrev pub decreases-loop-n : goal.decreases-loop-n
decreases-loop-n l = length l.rest
