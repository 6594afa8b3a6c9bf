-- `rows_end`: where the entries of the rows passed end.
use mathlib.Core.Path.{refl}
use native.Mathlib.Omega.{arith}
use Rattle.metrics.specs.TableLaws.{row_within, record_here, record_fits, rows_passed}
use Rattle.metrics.specs.ListingLaws.{sized_small, sized_next, sized_all}
use Rattle.metrics.proofs.table.Table.rows_end.Goals as goal

pub cause-requires : goal.cause-requires
cause-requires c =
    record_fits c.args.self.now.held c.loop-row.row-index c.args.self.now.rows c.loop-row-test.true c.args.register.now c.requires.1

pub overflow_add-end-in-loop-row : goal.overflow_add-end-in-loop-row
overflow_add-end-in-loop-row c =
    let e = record_here c.args.self.now.held c.loop-row.row-index c.args.self.now.rows c.loop-row-test.true in
    let h = row_within c.args.self.now.held c.loop-row.row-index c.args.self.now.rows c.loop-row-test.true in
    omega (arith, sized_small (omega (arith, c.requires.0, c.requires.2)) c.loop-row.invariant _ (rw e at c.cause.ensures) h c.requires.0)

pub loop-row-preserved : goal.loop-row-preserved
loop-row-preserved c =
    let e = record_here c.args.self.now.held c.loop-row.row-index c.args.self.now.rows c.loop-row-test.true in
    let h = row_within c.args.self.now.held c.loop-row.row-index c.args.self.now.rows c.loop-row-test.true in
    sized_next (omega (arith, c.requires.0, c.requires.2)) c.loop-row.invariant _ (rw e at c.cause.ensures) h refl

pub returns : goal.returns
returns c =
    sized_all (omega (arith, c.requires.0, c.requires.2)) c.loop-row.invariant (rows_passed c.args.self.now.held c.loop-row.row-index c.args.self.now.rows c.requires.0 c.requires.2 (omega (arith, c.loop-row-test.false)))
