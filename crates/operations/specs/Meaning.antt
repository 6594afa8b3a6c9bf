-- What `perform` asks of what was read of a call, and what is left of `perform` once the answer's room was tested.
use Rattle.std.specs.Prelude.{ℕ, ◌≤◌, ◌≡◌, true, cond, Result}
use Rattle.octets.specs.Bytes.{Bytes}
use Rattle.definition.specs.Value.{CallValue, op_of}
use Rattle.definition.specs.Station.{Step}
use Rattle.definition.specs.Answer.{Answer}
use Rattle.definition.specs.Perform.{step_for, in_length, asks_record}
use Rattle.definition.specs.Clauses.LegalFields.{LegalCall}
use Rattle.model.specs.declared.refusal.Refusal.{Refusal}
use Rattle.call.specs.declared.Parsed.{Parsed}
use Rattle.call.specs.Meaning.{outcome_value, outcome_within}
use Rattle.register.specs.declared.Ends.{Ends}
use Rattle.register.specs.Meaning.{Standing}

-- a sound register with its chains' ends, and what was read of a call's bytes: the call, or its refusal
pub record Called (b : Bytes) (e : Ends) (call : Bytes) (o : Result Parsed Refusal) : Type 0 where
  pub standing : Standing b e
  pub within : outcome_within call o
  pub legal : LegalCall (outcome_value call o)

-- 30: "shorter than 1,552 (ops 1 to 7, 11)", and M-105's 13 and 14; n is the answer slice's length
abbrev pub HasRoom : CallValue → ℕ → Type 0
HasRoom c n = asks_record (op_of c) ≡ true → 1552 ≤ n

-- the call's step, where there is that room
abbrev pub with_room : CallValue → ℕ → Step Answer
with_room c n = cond (asks_record (op_of c)) (step_for c) (in_length n (step_for c))
