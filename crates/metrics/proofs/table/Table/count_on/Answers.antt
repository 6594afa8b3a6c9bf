-- `count_on`: with the rest added, the rows are the first of the tally; all but the amounts is as it was.
use mathlib.Core.Path.{refl, ◌∙◌}
use Rattle.metrics.specs.RowLaws.{ahead_from}
use Rattle.metrics.specs.TableWalkLaws.{counting_none, counting_fits, counting_small, counting_next, counting_all}
use Rattle.metrics.proofs.table.Table.count_on.Goals as goal

pub loop-i-init : goal.loop-i-init
loop-i-init c =
    let w = c.requires.1 in
    (counting_none w (ahead_from w.reached c.into_iter-i-iterator.ensures.into_iter_gives c.behind-i-items.ensures), refl, refl, refl, refl)

pub row_of-row-requires : goal.row_of-row-requires
row_of-row-requires c =
    let w = c.loop-i.invariant.0 in
    (w.table.room, w.table.fit, counting_fits w c.in-Some.ensures.steps)

pub count_in-requires : goal.count_in-requires
count_in-requires c =
    let w = c.loop-i.invariant.0 in
    (w.table.room, counting_small w c.in-Some.ensures.steps, c.row_of-row.ensures.within)

pub loop-i-preserved : goal.loop-i-preserved
loop-i-preserved c =
    let q = c.count_in.ensures in (
      rw (q.same_rows, q.same_records) (counting_next c.loop-i.invariant.0 c.in-Some.ensures.steps c.row_of-row.ensures.row q.counted),
      q.same_rows ∙ c.loop-i.invariant.1,
      q.same_place ∙ c.loop-i.invariant.2,
      q.same_at ∙ c.loop-i.invariant.3,
      q.same_records ∙ c.loop-i.invariant.4,
    )

pub returns-clause-counted : goal.returns-clause-counted
returns-clause-counted c = counting_all c.loop-i.invariant.0 c.in-None.ensures.steps.0
