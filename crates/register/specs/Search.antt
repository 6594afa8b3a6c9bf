-- "Searches take the first match on the active chain": what a search gives, in the definition's words, and what it promises.
use Rattle.std.specs.Prelude.{ℕ, ◌+◌, ◌*◌, ◌^◌, ◌≤◌, ◌<◌, ◌≡◌, List, [], ◌∷◌, Bool, cond, length, take}
use Rattle.std.specs.Prelude as std
use Rattle.std.proofs.Math.Option.{Option, none, some}
use Rattle.octets.specs.Bytes.{Bytes}
use Rattle.definition.specs.Chain.{Entry, on_content}
use Rattle.definition.specs.Alarm.{Alarm}
use Rattle.definition.specs.Record.{read_alarm}
use Rattle.definition.specs.Book.{Record, record_of}
use Rattle.definition.specs.Sound.{station}
use Rattle.register.specs.declared.Found.{Found}

-- ---- the alarms that are looked at

-- the alarm in a record, and in record i
abbrev pub alarm_in : Record → Alarm
alarm_in e = read_alarm e.content

abbrev pub alarm_at : Bytes → ℕ → Alarm
alarm_at b i = alarm_in (record_of b i)

-- a closure, by what it asks and what it gives, tells of each record of the register b whether its alarm passes t
pub record Tells (pre : ℕ → Type 0) (post : ℕ → Bool → Type 0) (b : Bytes) (t : Alarm → Bool) : Type 0 where
  pub may : (i : ℕ) → i < 2 ^ 32 → 1536 * i + 1536 ≤ length b → pre i
  pub is : (i : ℕ) → i < 2 ^ 32 → 1536 * i + 1536 ≤ length b → (r : Bool) → post i r → r ≡ t (alarm_at b i)

-- of a string in a room of m bytes that says that it has n, r are there
pub record Used (n m r : ℕ) : Type 0 where
  pub fits : r ≤ m
  pub is : (s : Bytes) → length s ≤ m → take n s ≡ take r s

-- ---- "the first match"

-- an alarm with its record's index, and the index of the record before it on the chain, 0 for none
pub record Match : Type 0 where
  pub alarm : Entry Alarm
  pub previous : ℕ

abbrev pub behind : ℕ → Entry Alarm → Match
behind q e = record { alarm = e; previous = q }

-- the first alarm of a chain that passes a test; q stands before the chain
unfoldable pub first_match : (Alarm → Bool) → ℕ → List (Entry Alarm) → Option Match
first_match t q [] = none
first_match t q (e ∷ c) = cond (t e.content) (some (behind q e)) (first_match t e.index c)

-- ---- what a search gives

-- the record that was found, with the alarm that the register b holds there, behind the one before it; or none
abbrev pub meaning : Bytes → std.Option Found → Option Match
meaning b (std.Some f) = some (behind f.previous (on_content read_alarm (record_of b f.at)))
meaning b std.None = none

-- f is the first match on the active chain, or says that there is none
pub record Finds (t : Alarm → Bool) (b : Bytes) (f : std.Option Found) : Type 0 where
  pub is : meaning b f ≡ first_match t 0 (station b).active
