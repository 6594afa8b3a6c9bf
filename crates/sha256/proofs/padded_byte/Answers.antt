-- `padded_byte`: each branch is one part of the padding.
use Rattle.std.proofs.Common.{◌≡◌, ℕ, ◌+◌, ◌-◌, ◌*◌, ◌/◌, List, length, get_or, inl, inr, sym, ap, ◌∙◌, arith}
use Rattle.fips180.specs.Sha256.{padded}
use Rattle.fips180.specs.PaddingLaws.{padded_message, padded_mark, padded_past, padded_zero, padded_length}
use Rattle.sha256.proofs.padded_byte.Goals as goal

pub returns-then-i-n : goal.returns-then-i-n
returns-then-i-n c = sym (padded_message _ _ (omega arith))

pub returns-then-i-n-2 : goal.returns-then-i-n-2
returns-then-i-n-2 c = rw c.if-i-n-2.true (sym (padded_mark _))

pub returns-then-total-i : goal.returns-then-total-i
returns-then-total-i c =
    elim c.if-total-i.either [
      | inl l ↦ sym (padded_zero _ _ (omega arith) l)
      | inr l ↦ sym (padded_past _ _ l.1)
    ]

pub returns-else-total-i : goal.returns-else-total-i
returns-else-total-i c =
    let m : List ℕ = c.args.message.now in
    let i : ℕ = c.args.i in
    let z : ℕ = (length m + 72) / 64 * 64 - 8 in
    let e : z + (i - z) ≡ i = omega arith in
    ap (λ (l : List ℕ). get_or l (i - z) 0) c.length_bytes.ensures ∙ sym (padded_length m (i - z))
    ∙ ap (λ (k : ℕ). get_or (padded m) k 0) e
