-- `collect`: the rows are the tally of the places passed.
use mathlib.Core.Path.{◌≡◌}
use Rattle.metrics.specs.Meaning.{records, amounts}
use Rattle.metrics.specs.TableWalkLaws.{Collecting}
use Rattle.metrics.proofs.table.Table.collect.Given as goal

abbrev pub invariant-loop-i : goal.invariant-loop-i
invariant-loop-i l = Collecting l.register l.self.place l.self.held (records l.self.rows) (amounts l.self.rows) l.i-iterator × (l.self.at ≡ 0)
