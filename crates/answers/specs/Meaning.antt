-- What is put of an answer, as the contracts say it.
use Rattle.std.specs.Prelude.{ℕ, ◌∷◌, ◌++◌}
use Rattle.octets.specs.Bytes.{Bytes, be32}
use Rattle.octets.specs.Put.{Put}
use Rattle.definition.specs.Key.{string}
use Rattle.definition.specs.Answer.{Head, Totals, head_bytes}
use Rattle.answers.specs.declared.Totals.{Totals as Told}

-- a head, and a body behind it, were put at the front of the slice b: c is the slice then, and r the answer's length
abbrev pub Answered : Bytes → Head → Bytes → ℕ → Bytes → Type 0
Answered b h body r c = Put b 0 (head_bytes h ++ body) r c

-- an entry of operation 10: severity, amount, cause
abbrev pub entry : ℕ → ℕ → Bytes → Bytes
entry severity amount cause = severity ∷ (be32 amount ++ string cause)

-- the totals of operation 11 in the definition's words
abbrev pub totals_of : Told → Totals
totals_of t = record { active = t.active; worst = t.worst; readiness = t.readiness; successes = t.successes; failures = t.failures }
