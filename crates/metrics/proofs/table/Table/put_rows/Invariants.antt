-- `put_rows`: the entries of the rows passed stand in the answer.
use Rattle.metrics.specs.Meaning.{records, amounts}
use Rattle.metrics.specs.ListingLaws.{Listed}
use Rattle.metrics.proofs.table.Table.put_rows.Given as goal

abbrev pub invariant-loop-row : goal.invariant-loop-row
invariant-loop-row l = Listed l.register l.self.held (records l.self.rows) (amounts l.self.rows) l.initial.answer l.answer l.row-index l.end
