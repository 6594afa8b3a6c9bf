-- The string is the field's.
use Rattle.definition.specs.Slot.{cut}
use Rattle.definition.specs.Record.{read_alarm}
use Rattle.record.proofs.id.Goals as goal

pub returns : goal.returns
unfolding read_alarm cut
returns c = c.string_of.ensures
