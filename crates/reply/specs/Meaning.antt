-- What an operation's reply says of its step, and what a host is told of it.
use Rattle.std.specs.Prelude.{ℕ, Result, Ok, Err}
use Rattle.octets.specs.Bytes.{Bytes}
use Rattle.definition.specs.Station.{Step}
use Rattle.definition.specs.Answer.{Answer}
use Rattle.definition.specs.Clauses.Does.{Answers, Refuses}
use Rattle.model.specs.declared.refusal.Refusal.{Refusal}
use Rattle.model.specs.Refusal.{refusal_number}

-- the answer's length, or why there is none
abbrev pub Reply : Type 0
Reply = Result ℕ Refusal

-- a reply by a number, whatever that is: the step m, on a register that was b and is b' and an answer slice that was a and is a', is done and
-- answered, or refused with that number and nothing changes
abbrev pub RepliesBy : Result ℕ ℕ → Step Answer → Bytes → Bytes → Bytes → Bytes → Type 0
RepliesBy (Ok n) m b b' a a' = Answers m b b' a a' n
RepliesBy (Err k) m b b' a a' = Refuses m b b' a a' k

-- a reply by the number of its refusal
abbrev pub numbered : Reply → Result ℕ ℕ
numbered (Ok n) = Ok n
numbered (Err e) = Err (refusal_number e)

-- the same of a reply by its refusal
abbrev pub Replies : Reply → Step Answer → Bytes → Bytes → Bytes → Bytes → Type 0
Replies y = RepliesBy (numbered y)

-- "Every other call returns 0 and the answer's length"; "a refusal returns its number and length 0"
abbrev pub length_in : Reply → ℕ
length_in (Ok n) = n
length_in (Err e) = 0

-- the same of a reply that is refused by a number
abbrev pub number_told : Result ℕ ℕ → ℕ
number_told (Ok n) = 0
number_told (Err k) = k

abbrev pub length_told : Result ℕ ℕ → ℕ
length_told (Ok n) = n
length_told (Err k) = 0
