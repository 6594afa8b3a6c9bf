-- `rows_end`: where the entries of the rows passed end.
use Rattle.metrics.specs.Meaning.{records}
use Rattle.metrics.specs.ListingLaws.{Sized}
use Rattle.metrics.proofs.table.Table.rows_end.Given as goal

abbrev pub invariant-loop-row : goal.invariant-loop-row
invariant-loop-row l = Sized l.register l.self.held (records l.self.rows) l.row-index l.end
