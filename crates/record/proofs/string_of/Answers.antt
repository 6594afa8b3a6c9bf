-- As long as the slot says, or all of its room.
use mathlib.Core.Path.{◌∙◌, sym, ap}
use Prim.Native.Nat.{ℕ, ◌+◌, ◌≤◌, min}
use Rattle.std.proofs.Common.{inl, inr, ◌≡◌, arith}
use Rattle.std.proofs.lemmas.Bool.{cases_lt}
use lib.ListN.{length, take, drop}
use Rattle.octets.specs.Bytes.{Bytes, number_at}
use Rattle.definition.specs.Record.{any_bytes}
use Rattle.definition.proofs.Laws.Record.Slot.{part_lent, string_get, string_all}
use Rattle.record.specs.Meaning.{string_at}
use Rattle.record.proofs.string_of.Goals as goal

-- m is what the slot says, but no more than the room
read : (p : Bytes) (at n m : ℕ) → at + (2 + n) ≤ length p → m ≡ min n (number_at 2 p at) → take m (drop (at + 2) p) ≡ string_at n p at
read p at n m h e =
    elim (cases_lt n (number_at 2 p at)) [
      | inl k ↦ let all : m ≡ n = omega (arith, e, k) in ap (λ (j : ℕ). take j (drop (at + 2) p)) all ∙ sym (string_all n any_bytes p at (omega (arith, k)))
      | inr k ↦ let said : m ≡ number_at 2 p at = omega (arith, e, k) in ap (λ (j : ℕ). take j (drop (at + 2) p)) said ∙ sym (string_get n any_bytes p at k)
    ]

pub returns : goal.returns
returns c =
    part_lent c.args.p.now (c.args.at + 2) _ ∙ read c.args.p.now c.args.at c.args.n _ (omega arith) (c.min-m.ensures ∙ ap (min c.args.n) c.get16.ensures)
