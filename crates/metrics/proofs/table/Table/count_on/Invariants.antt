-- `count_on`: with the rest added, the rows are the first of the tally; all but the amounts is as it was.
use mathlib.Core.Path.{◌≡◌}
use Rattle.metrics.specs.Meaning.{records, amounts}
use Rattle.metrics.specs.TableWalkLaws.{Counting}
use Rattle.metrics.proofs.table.Table.count_on.Given as goal

abbrev pub invariant-loop-i : goal.invariant-loop-i
invariant-loop-i l =
    Counting l.register l.self.held (records l.self.rows) (amounts l.self.rows) l.i-iterator
    × (l.self.held ≡ l.initial.self.held) × (l.self.place ≡ l.initial.self.place) × (l.self.at ≡ l.initial.self.at)
    × (records l.self.rows ≡ records l.initial.self.rows)
