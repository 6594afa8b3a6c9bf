-- `is_first`: no row has the rating, and none of the places passed.
use Prim.Native.Nat.{◌+◌, ◌≤◌}
use mathlib.Core.Path.{sym, ◌∙◌}
use native.Mathlib.Omega.{arith}
use Rattle.std.proofs.Math.Decide.{dec_lt}
use Rattle.std.specs.Iterator.Adapters.{take_count}
use Rattle.definition.specs.Reports.{rating}
use Rattle.history.specs.WalkLaws.{reached_fits}
use Rattle.history.specs.PlaceLaws.{ahead_end, ahead_further, ahead_field}
use Rattle.metrics.specs.Meaning.{ratings, rating_at}
use Rattle.metrics.specs.FirstLaws.{seen_later, unmet_from, unmet_next, met, unmet_all}
use Rattle.metrics.specs.RowLaws.{ahead_from, ahead_place, some_below, none_above, covers_row, covers_none}
use Rattle.metrics.proofs.is_first.Goals as goal

pub row_of-requires : goal.row_of-requires
row_of-requires c =
    (c.requires.0.room, c.requires.0.fit, reached_fits c.requires.1.reached c.requires.1.within)

pub returns-then-is_some : goal.returns-then-is_some
returns-then-is_some c =
    let q = rating_at c.args.register.now c.args.i in
    let below = some_below c.row_of.result c.row_of.ensures.within (sym c.is_some.ensures ∙ c.if-is_some.true) in
    sym (seen_later q c.args.table.now.place c.args.k (ratings c.args.register.now) c.requires.2 (covers_row c.requires.0 q c.row_of.ensures.row below))

pub loop-j-init : goal.loop-j-init
loop-j-init c =
    let q = rating_at c.args.register.now c.args.i in
    let above = none_above c.row_of.result c.args.table.now.held (sym c.is_some.ensures ∙ c.if-is_some.false) in
    let t = c.take-j-items.ensures in
    rw (c.into_iter-j-iterator.ensures.into_iter_gives) (
      c.args.table.now.place,
      ahead_from c.requires.0.reached t.source c.behind.ensures,
      omega (arith, t.count, c.requires.2),
      unmet_from q (ratings c.args.register.now) c.args.k c.args.table.now.place c.requires.2 (covers_none c.requires.0 q c.row_of.ensures.row above),
    )

pub same-requires : goal.same-requires
same-requires c =
    let here = ahead_place c.loop-j.invariant.1 c.in-Some.ensures.steps.0 in
    (reached_fits c.requires.1.reached c.requires.1.within, reached_fits here.reached here.within)

pub returns-then-same : goal.returns-then-same
returns-then-same c =
    let w = c.loop-j.invariant in
    let s = c.in-Some.ensures.steps in
    sym (met (rating_at c.args.register.now c.args.i) (ratings c.args.register.now) c.args.k w.3 (omega (arith, w.2, s.1)) _ (ahead_field w.1 s.0 rating) (sym c.same.ensures ∙ c.if-same.true))

pub loop-j-preserved : goal.loop-j-preserved
loop-j-preserved c =
    let w = c.loop-j.invariant in
    let s = c.in-Some.ensures.steps in (
      w.0 + 1,
      ahead_further w.1 s.0,
      omega (arith, w.2, s.1),
      unmet_next (rating_at c.args.register.now c.args.i) (ratings c.args.register.now) c.args.k w.3 (omega (arith, w.2, s.1)) _ (ahead_field w.1 s.0 rating) (sym c.same.ensures ∙ c.if-same.false),
    )

pub returns : goal.returns
returns c =
    let w = c.loop-j.invariant in
    let passed : c.args.k ≤ w.0 = elim (dec_lt 0 (take_count c.loop-j.j-iterator)) [
      | yes h ↦ omega (arith, ahead_end w.1 (c.in-None.ensures.steps h).0, c.requires.1.within)
      | no h ↦ omega (arith, w.2)
    ] in
    sym (unmet_all (rating_at c.args.register.now c.args.i) (ratings c.args.register.now) c.args.k w.3 passed)
