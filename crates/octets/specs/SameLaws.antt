-- Laws of `same` and `begins`: what they say, and that std's `==` and `starts_with` of slices say the same.
use Rattle.std.specs.Prelude.{◌≡◌, refl, true, false, ◌&&◌, [], ◌∷◌, ◌++◌, ℕ, ◌≤◌, ◌<◌, T, eqb, length, take, drop}
use Rattle.std.proofs.Common.{sym, ap, arith, eqb→eq, drop_of_length-le}
use Rattle.std.specs.Cmp.Lexicographic.{pointwise}
use borrow.Author.Tests.{eq-eqb}
use Rattle.octets.specs.Bytes.{Bytes, same, begins}
use Rattle.octets.specs.BoolLaws.{and_false, and_assoc, both_left, both_right, fails}

-- ---- what they say

pub same→eq : (s t : Bytes) → T (same s t) → s ≡ t
unfolding same
same→eq [] [] p = refl
same→eq [] (b ∷ t) p = absurd p
same→eq (a ∷ s) [] p = absurd p
same→eq (a ∷ s) (b ∷ t) p =
    let h = eqb→eq a b (both_left (eqb a b) (same s t) p) in
    let l = same→eq s t (both_right (eqb a b) (same s t) p) in
    cc

pub same_refl : (s : Bytes) → same s s ≡ true
unfolding same
same_refl [] = refl
same_refl (a ∷ s) = rw (eq-eqb a a refl) (same_refl s)

pub eq→same : (s t : Bytes) → s ≡ t → same s t ≡ true
eq→same s t e = rw e (same_refl t)

pub ne→same : (s t : Bytes) → (s ≡ t → ⊥) → same s t ≡ false
ne→same s t h = fails (same s t) (λ p. h (same→eq s t p))

-- lists of other lengths are not the same
pub same_lengths : (s t : Bytes) → (length s ≡ length t → ⊥) → same s t ≡ false
same_lengths s t h = ne→same s t (λ e. h (ap length e))

pub same_append : (p q s t : Bytes) → length p ≡ length q → same (p ++ s) (q ++ t) ≡ same p q && same s t
unfolding same
same_append [] [] s t h = refl
same_append [] (b ∷ q) s t h = absurd (omega arith)
same_append (a ∷ p) [] s t h = absurd (omega arith)
same_append (a ∷ p) (b ∷ q) s t h =
    rw (same_append p q s t (omega arith)) (sym (and_assoc (eqb a b) (same p q) (same s t)))

pub begins_short : (p s : Bytes) → length s < length p → begins p s ≡ false
unfolding begins
begins_short [] s h = absurd (omega arith)
begins_short (a ∷ p) [] h = refl
begins_short (a ∷ p) (b ∷ s) h = rw (begins_short p s (omega arith)) (and_false (eqb a b))

pub same_end : (s t : Bytes) (i : ℕ) → length s ≤ i → length t ≤ i → same (drop i s) (drop i t) ≡ true
unfolding same
same_end s t i h k = rw (drop_of_length-le s h, drop_of_length-le t k)

-- ---- by std's words

pub same_by_byte : (s t : Bytes) → pointwise eqb s t ≡ same s t
unfolding same
same_by_byte [] [] = refl
same_by_byte [] (b ∷ t) = refl
same_by_byte (a ∷ s) [] = refl
same_by_byte (a ∷ s) (b ∷ t) = ap (◌&&◌ (eqb a b)) (same_by_byte s t)

pub begins_by_byte : (p s : Bytes) → pointwise eqb p (take (length p) s) ≡ begins p s
unfolding begins
begins_by_byte [] s = refl
begins_by_byte (a ∷ p) [] = refl
begins_by_byte (a ∷ p) (b ∷ s) = ap (◌&&◌ (eqb a b)) (begins_by_byte p s)
