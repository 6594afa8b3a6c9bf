-- The bytes left are scanned with what is known of those passed.
use mathlib.Core.Path.{◌≡◌}
use lib.ListN.{drop}
use Rattle.definition.specs.Cause.{dotted}
use Rattle.cause.proofs.Dotted.{scan}
use Rattle.cause.proofs.is_dotted.Given as goal

abbrev pub invariant-loop-i : goal.invariant-loop-i
invariant-loop-i l = scan l.open l.dot (drop l.i l.s) ≡ dotted l.s
