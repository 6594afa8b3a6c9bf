-- An alarm with one field changed, in its bytes.
use Rattle.std.specs.Prelude.{ℕ, ◌≡◌}
use Rattle.octets.specs.Bytes.{Bytes, splice}
use Rattle.definition.specs.Alarm.{Alarm}
use Rattle.definition.specs.Record.{alarm_bytes}

-- the bytes c are the bytes b with v from a place on; and whatever alarm was in b, the alarm that f makes of it is in c
pub record Becomes (f : Alarm → Alarm) (at : ℕ) (v b c : Bytes) : Type 0 where
  pub bytes : c ≡ splice b at v
  pub alarm : (a : Alarm) → b ≡ alarm_bytes a → c ≡ alarm_bytes (f a)
