-- `part` meets its contract: from the span's place to its length behind it.
use Rattle.definition.proofs.Laws.Record.Slot.{part_lent}
use Rattle.model.proofs.part.Goals as goal

pub returns : goal.returns
returns c = part_lent c.args.call.now c.args.span.at c.args.span.len
