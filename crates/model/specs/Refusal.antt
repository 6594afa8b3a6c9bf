-- "For each answer that is an enum, a definition gives this paper's number and values for every case": the number of a refusal, and what a
-- host is told of an outcome.
use Rattle.std.specs.Prelude.{ℕ, Result, Ok, Err}
use Rattle.model.specs.declared.refusal.Refusal.{Refusal}
use Rattle.model.specs.declared.refusal.Refusal.TheVariants.{Limits, RegisterLength, Unsound, Operation, CallLength, Value, TooLong, Utf8, Cause, Region, AnswerLength, IdActive, CodePoints, End}

abbrev pub refusal_number : Refusal → ℕ
refusal_number Limits = 20
refusal_number RegisterLength = 21
refusal_number Unsound = 22
refusal_number Operation = 23
refusal_number CallLength = 24
refusal_number Value = 25
refusal_number TooLong = 26
refusal_number Utf8 = 27
refusal_number Cause = 28
refusal_number Region = 29
refusal_number AnswerLength = 30
refusal_number IdActive = 31
refusal_number CodePoints = 33
refusal_number End = 34

-- "Every other call returns 0"; "a refusal returns its number"
abbrev pub number_in : {A : Type 0} → Result A Refusal → ℕ
number_in (Ok x) = 0
number_in (Err e) = refusal_number e
