-- Byte 1 and the string's bytes are the field's slot.
use mathlib.Core.Path.{ap, refl}
use mathlib.Core.List.{◌∷◌}
use mathlib.Core.Option.{some}
use Prim.Native.Nat.{suc}
use native.Mathlib.Omega.{arith}
use Rattle.definition.proofs.Laws.Record.ChangedSlot.{length_string}
use Rattle.definition.specs.Alarm.{with_details}
use Rattle.record.proofs.Writes.{becomes}
use Rattle.definition.specs.Slot.{string_bytes}
use Rattle.record.proofs.set_details.Goals as goal

pub returns : goal.returns
returns c =
    becomes 14 (with_details (some c.args.s.now)) (1 ∷ string_bytes 512 c.args.s.now) _ _ (omega arith) (ap suc (length_string 512 c.args.s.now)) c.put_marked.ensures (λ a. refl)
