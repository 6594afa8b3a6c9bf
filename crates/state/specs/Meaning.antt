-- What a clear asks, and what is done to a record that was found.
use Rattle.std.specs.Prelude.{ℕ, ◌≤◌, length}
use Rattle.octets.specs.Bytes.{Bytes}
use Rattle.definition.specs.Value.{PlainValue, Action, acknowledging, suppressing, deed_end}
use Rattle.definition.specs.Chain.{Entry}
use Rattle.definition.specs.Alarm.{Alarm}
use Rattle.definition.specs.Station.{Step, ◌>>=◌, give}
use Rattle.definition.specs.Answer.{Answer, Cleared}
use Rattle.definition.specs.Steps.{plain, cleared_by, retire}
use Rattle.definition.specs.Clauses.LegalFields.{Time, Maybe}
use Rattle.definition.specs.Clauses.Does.{Answers}
use Rattle.model.specs.declared.Deed.{Deed}
use Rattle.model.specs.Meaning.{deed_of}
use Rattle.raise_fields.specs.declared.Clear.{Clear}
use Rattle.raise_fields.specs.Meaning.{ClearWithin}
use Rattle.register.specs.declared.Ends.{Ends}
use Rattle.history.specs.Meaning.{Newest}

abbrev pub plain_of : ℕ → Bytes → ℕ → PlainValue
plain_of time id authorised = record { time = time; id = id; authorised = authorised }

-- a sound register with history's newest record, a clear that the call holds, and room for a record in the answer
pub record Clearing (b : Bytes) (e : Ends) (call : Bytes) (c : Clear) (a : Bytes) : Type 0 where
  pub newest : Newest b e.history
  pub parts : ClearWithin call c
  pub room : 1552 ≤ length a

-- the call is authorised: its flag is not 0
abbrev pub Authorised : Action → ℕ → Bytes → Bytes → Bytes → Bytes → Bytes → ℕ → Type 0
Authorised x time id b b' a a' n = (flag : ℕ) → 1 ≤ flag → Answers (plain x (plain_of time id flag)) b b' a a' n

-- the end of a timed suppression is a time of 64 bits
abbrev pub EndsInTime : Deed → Type 0
EndsInTime d = Maybe Time (deed_end (deed_of d))

-- the codes of `Acknowledged` and `Suppressed`
abbrev pub action_code : Action → ℕ
action_code acknowledging = 7
action_code suppressing = 6

-- "Clear, key active"
abbrev pub cleared_at : ℕ → Entry Alarm → Step Answer
cleared_at time e = ◌>>=◌ (retire e.index (cleared_by time e.content)) (λ (u : Unit {0}). give (Cleared e.content.id))
