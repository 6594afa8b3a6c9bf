-- `count_in`: the row's amount is one more, and its record is kept.
use native.Mathlib.Omega.{arith}
use Rattle.metrics.specs.TableLaws.{amount_small, row_counted, records_kept}
use Rattle.metrics.proofs.table.Table.count_in.Goals as goal

pub overflow_add-self : goal.overflow_add-self
overflow_add-self c =
    omega (arith, amount_small c.args.self.now.rows c.in-Some.j c.args.self.now.held (rw (c.in-Some.is) at c.requires.2) c.requires.1)

pub returns-in-Some-clause-counted : goal.returns-in-Some-clause-counted
returns-in-Some-clause-counted c =
    rw (c.in-Some.is) (row_counted c.args.self.now.rows c.in-Some.j c.args.self.now.held (rw (c.in-Some.is) at c.requires.2))

pub returns-in-Some-clause-same_records : goal.returns-in-Some-clause-same_records
returns-in-Some-clause-same_records c =
    records_kept c.args.self.now.rows c.in-Some.j c.args.self.now.held (rw (c.in-Some.is) at c.requires.2)
