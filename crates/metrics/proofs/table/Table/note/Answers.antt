-- `note`: where no row has the rating and there is room, the record is a row.
use mathlib.Core.Path.{sym, ◌∙◌}
use native.Mathlib.Omega.{arith}
use Rattle.metrics.specs.TableLaws.{row_noted}
use Rattle.metrics.proofs.table.Table.note.Goals as goal

pub returns-clause-added : goal.returns-clause-added
returns-clause-added c =
    λ e. row_noted c.args.register.now c.args.i c.args.self.now.held c.args.self.now.rows c.row_of-row.result c.row_of-row.ensures.row
    (sym c.is_some.ensures ∙ c.if-is_some.false) (omega (arith, c.requires.0, c.if-self-eq-ROOM.false))
