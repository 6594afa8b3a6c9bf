-- `counts`: the table, the extent, and then the entries with their head.
use native.Mathlib.Omega.{arith}
use Rattle.metrics.specs.RowLaws.{covers}
use Rattle.metrics.specs.CountsLaws.{counts_refused, counts_fit, counts_answered}
use Rattle.metrics.proofs.counts.Goals as goal

pub measure-size-requires : goal.measure-size-requires
measure-size-requires c =
    (c.requires, covers c.collect.ensures)

pub returns-then-answer-size : goal.returns-then-answer-size
returns-then-answer-size c =
    counts_refused _ _ c.measure-size.ensures.entries_value c.requires _ (omega (arith, c.if-answer-size.true, c.measure-size.ensures.end_value))

pub count_on-requires : goal.count_on-requires
count_on-requires c =
    (c.requires, c.collect.ensures)

pub put_entries-end-requires : goal.put_entries-end-requires
put_entries-end-requires c =
    let fit = counts_fit _ _ c.measure-size.ensures.entries_value c.requires c.args.answer.now c.measure-size.ensures.end_value (omega (arith, c.if-answer-size.false)) in
    let q = c.count_on.ensures in
    (c.requires, rw (q.same_place, q.same_at, q.same_rows, q.same_records) (covers c.collect.ensures), q.counted, fit)

pub returns : goal.returns
returns c =
    counts_answered _ _ c.measure-size.ensures.entries_value c.requires _ _ _ _ _ c.put_entries-end.ensures c.put_head.ensures
