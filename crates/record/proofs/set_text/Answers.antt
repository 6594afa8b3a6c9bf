-- The string's bytes are the field's slot.
use mathlib.Core.Path.{refl}
use native.Mathlib.Omega.{arith}
use Rattle.definition.proofs.Laws.Record.ChangedSlot.{length_string}
use Rattle.definition.specs.Alarm.{with_text}
use Rattle.record.proofs.Writes.{becomes}
use Rattle.definition.specs.Slot.{string_bytes}
use Rattle.record.proofs.set_text.Goals as goal

pub returns : goal.returns
returns c =
    becomes 13 (with_text c.args.s.now) (string_bytes 256 c.args.s.now) _ _ (omega arith) (length_string 256 c.args.s.now) c.put_string.ensures (λ a. refl)
