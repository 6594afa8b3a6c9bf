-- A byte, and a string's slot behind it.
use native.Mathlib.Omega.{arith}
use Rattle.octets.specs.SpliceLaws.{marked_splices}
use Rattle.definition.specs.Slot.{string_bytes}
use Rattle.definition.proofs.Laws.Record.ChangedSlot.{length_string}
use Rattle.record.proofs.put_marked.Goals as goal

pub returns : goal.returns
returns c =
    marked_splices _ _ _ (string_bytes c.args.n c.args.s.now) c.args.at c.args.mark (omega (arith, length_string c.args.n c.args.s.now)) c.put_byte.ensures c.put_string.ensures
