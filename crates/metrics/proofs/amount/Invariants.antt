-- `amount`: of the records passed, as many as were found have the rating.
use Prim.Native.Nat.{ℕ}
use Rattle.definition.specs.Reports.{same_rating}
use Rattle.history.specs.Walk.{AheadAt}
use Rattle.history.specs.CountLaws.{Counted}
use Rattle.metrics.specs.Meaning.{ratings, rating_at}
use Rattle.metrics.proofs.amount.Given as goal

abbrev pub invariant-loop-j : goal.invariant-loop-j
invariant-loop-j l =
    (p : ℕ) × AheadAt l.register 0 p l.j-iterator × Counted (same_rating (rating_at l.register l.i)) (ratings l.register) p l.found
