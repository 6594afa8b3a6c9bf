-- A slot of an alarm that is replaced, as the contracts say it.
use mathlib.Core.Path.{◌≡◌}
use Prim.Native.Nat.{ℕ, ◌<◌}
use lib.ListN.{length, get_or, set}
use Rattle.octets.specs.Bytes.{Bytes, splice}
use Rattle.definition.specs.Alarm.{Alarm}
use Rattle.definition.proofs.Laws.Record.Join.{offset}
use Rattle.definition.proofs.Laws.Record.Payloads.{alarm_widths, alarm_pieces}
use Rattle.definition.proofs.Laws.Record.ChangedSlot.{slot_law}
use Rattle.record.specs.Change.{Becomes}

-- slot k; the last argument is `λ a. refl` for each field
pub becomes :
    (k : ℕ) (f : Alarm → Alarm) (v b c : Bytes) → k < length alarm_widths → length v ≡ get_or alarm_widths k 0 → c ≡ splice b (offset alarm_widths k) v →
    ((a : Alarm) → set (alarm_pieces a) k v ≡ alarm_pieces (f a)) → Becomes f (offset alarm_widths k) v b c
becomes k f v b c h l e changed = record { bytes = e; alarm = slot_law k f v b c h l e changed }
