-- `is_first`: no row has the rating, and none of the places passed.
use Prim.Native.Nat.{ℕ, ◌+◌}
use mathlib.Core.Path.{◌≡◌}
use Rattle.std.specs.Iterator.Adapters.{take_source, take_count}
use Rattle.history.specs.Walk.{AheadAt}
use Rattle.metrics.specs.Meaning.{ratings, rating_at}
use Rattle.metrics.specs.FirstLaws.{Unmet}
use Rattle.metrics.proofs.is_first.Given as goal

abbrev pub invariant-loop-j : goal.invariant-loop-j
invariant-loop-j l =
    (p : ℕ) × AheadAt l.register 0 p (take_source l.j-iterator) × (p + take_count l.j-iterator ≡ l.k)
    × Unmet (rating_at l.register l.i) (ratings l.register) l.k p
