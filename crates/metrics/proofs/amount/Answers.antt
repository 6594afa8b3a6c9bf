-- `amount`: of the records passed, as many as were found have the rating.
use Prim.Native.Nat.{ℕ, ◌+◌}
use mathlib.Core.Path.{ap, ◌∙◌}
use native.Mathlib.Omega.{arith}
use Rattle.definition.specs.Reports.{rating}
use Rattle.history.specs.WalkLaws.{reached_most, reached_fits}
use Rattle.history.specs.PlaceLaws.{ahead_at, ahead_within, ahead_reached, ahead_further, ahead_field, ahead_none}
use Rattle.history.specs.CountLaws.{more_if, one_at_most, counted_next, counted_all}
use Rattle.metrics.specs.Meaning.{ratings, rating_at}
use Rattle.metrics.specs.FirstLaws.{counted_from}
use Rattle.metrics.proofs.amount.Goals as goal

pub loop-j-init : goal.loop-j-init
loop-j-init c = (
  c.args.k,
  ahead_at c.requires.1.reached (c.into_iter-j-iterator.ensures.into_iter_gives ∙ c.records_from-j-items.ensures),
  counted_from (rating_at c.args.register.now c.args.i) c.args.k (ratings c.args.register.now) c.requires.2,
)

pub same-requires : goal.same-requires
same-requires c =
    let w = c.loop-j.invariant.1 in
    let here = c.in-Some.ensures.steps in
    (reached_fits c.requires.1.reached c.requires.1.within, reached_fits (ahead_reached w here) (ahead_within w here))

pub overflow_add-found : goal.overflow_add-found
overflow_add-found c =
    let w = c.loop-j.invariant.1 in
    let here = c.in-Some.ensures.steps in
    omega (arith, ahead_within w here, reached_most (ahead_reached w here), c.loop-j.invariant.2.few, c.from-found.ensures, one_at_most c.same.result)

pub loop-j-preserved : goal.loop-j-preserved
loop-j-preserved c =
    let w = c.loop-j.invariant.1 in
    let here = c.in-Some.ensures.steps in (
      c.loop-j.invariant.0 + 1,
      ahead_further w here,
      counted_next c.loop-j.invariant.2 (ahead_field w here rating) c.same.ensures (ap (λ (x : ℕ). c.loop-j.found + x) c.from-found.ensures ∙ more_if c.same.result c.loop-j.found),
    )

pub returns : goal.returns
returns c =
    counted_all c.loop-j.invariant.2 (ahead_none c.loop-j.invariant.1 rating c.in-None.ensures.steps.0)
