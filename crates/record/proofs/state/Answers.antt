-- The byte is the field's slot.
use mathlib.Core.Path.{sym}
use native.Mathlib.Omega.{arith}
use Rattle.definition.specs.Slot.{cut}
use Rattle.definition.specs.Record.{read_alarm}
use Rattle.definition.proofs.Laws.Record.Slot.{part_first}
use Rattle.record.proofs.state.Goals as goal

pub returns : goal.returns
unfolding read_alarm cut
returns c = sym (part_first c.args.p.now 17 1 (omega arith))
