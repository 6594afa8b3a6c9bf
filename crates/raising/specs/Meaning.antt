-- What a raise needs, and its ways.
use Rattle.std.specs.Prelude.{ℕ, ◌≤◌, length}
use Rattle.std.proofs.Math.Option.{none}
use Rattle.octets.specs.Bytes.{Bytes}
use Rattle.definition.specs.Value.{RaiseValue}
use Rattle.definition.specs.Clauses.LegalFields.{LegalRaise}
use Rattle.definition.specs.Station.{Step}
use Rattle.definition.specs.Answer.{Answer, Updated}
use Rattle.definition.specs.Steps.{change, updated_by, raise_at}
use Rattle.raise_fields.specs.declared.Raise.{Raise}
use Rattle.raise_fields.specs.Meaning.{raise_value, RaiseWithin}
use Rattle.register.specs.declared.Ends.{Ends}
use Rattle.register.specs.Meaning.{Standing}
use Rattle.register.specs.Search.{alarm_at}

-- a sound register with its chains' ends, a raise that the call holds, and room for an alarm in the answer
pub record Ready (b : Bytes) (e : Ends) (call : Bytes) (r : Raise) (a : Bytes) : Type 0 where
  pub standing : Standing b e
  pub parts : RaiseWithin call r
  pub legal : LegalRaise (raise_value call r)
  pub room : 1552 ≤ length a

-- "Raise, key active": record i of b
abbrev pub updates_at : Bytes → ℕ → RaiseValue → Step Answer
updates_at b i c = change Updated i (updated_by c (alarm_at b i))

-- "Otherwise"
abbrev pub raises_new : RaiseValue → Bytes → Step Answer
raises_new c k = raise_at c k none
