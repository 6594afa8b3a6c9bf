-- `put_rows`: the entries of the rows passed stand in the answer.
use mathlib.Core.List.{◌∷◌, ◌++◌}
use native.Mathlib.Omega.{arith}
use Rattle.octets.specs.Bytes.{be32}
use Rattle.octets.specs.PutLaws.{put_as}
use Rattle.definition.specs.Key.{string}
use Rattle.metrics.specs.TableLaws.{row_within, record_here, amount_here, record_fits, rows_passed}
use Rattle.metrics.specs.ListingLaws.{listed_none, listed_fits, listed_next, listed_all}
use Rattle.metrics.proofs.table.Table.put_rows.Goals as goal

pub loop-row-init : goal.loop-row-init
loop-row-init c = listed_none _ c.requires.0 c.requires.1

pub severity-requires : goal.severity-requires
severity-requires c =
    record_fits c.args.self.now.held c.loop-row.row-index c.args.self.now.rows c.loop-row-test.true c.args.register.now c.requires.0.table.fit

pub cause-requires : goal.cause-requires
cause-requires c =
    record_fits c.args.self.now.held c.loop-row.row-index c.args.self.now.rows c.loop-row-test.true c.args.register.now c.requires.0.table.fit

pub put_count-end-requires : goal.put_count-end-requires
put_count-end-requires c =
    let e = record_here c.args.self.now.held c.loop-row.row-index c.args.self.now.rows c.loop-row-test.true in
    let h = row_within c.args.self.now.held c.loop-row.row-index c.args.self.now.rows c.loop-row-test.true in
    listed_fits c.loop-row.invariant h _ (rw e at c.cause.ensures)

pub loop-row-preserved : goal.loop-row-preserved
loop-row-preserved c =
    let e = record_here c.args.self.now.held c.loop-row.row-index c.args.self.now.rows c.loop-row-test.true in
    let n = amount_here c.args.self.now.held c.loop-row.row-index c.args.self.now.rows c.loop-row-test.true in
    let h = row_within c.args.self.now.held c.loop-row.row-index c.args.self.now.rows c.loop-row-test.true in
    let severity = rw e at c.severity.ensures in
    let cause = rw e at c.cause.ensures in
    listed_next c.loop-row.invariant h (put_as (λ x. severity x ∷ (be32 (n x) ++ string (cause x))) c.put_count-end.ensures)

pub returns : goal.returns
returns c =
    let t = c.requires.0.table in
    listed_all c.loop-row.invariant (rows_passed c.args.self.now.held c.loop-row.row-index c.args.self.now.rows t.room t.records (omega (arith, c.loop-row-test.false)))
