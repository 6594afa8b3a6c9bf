-- Bytes joined by or: what is below a power of two, and what is zero.
use Rattle.std.specs.Prelude.{◌≡◌, ◌&&◌, ℕ, ◌≤◌, ◌^◌, ltb, eqb}
use Rattle.std.proofs.Common.{arith, lt-ltb, ltb-true, eq-eqb, eqb-true}
use Rattle.std.specs.Int.Bits.{bit_or, or_zero_l, or_add_and}
use Rattle.std.proofs.lemmas.Nat.{or_lt, and_le_l, and_le_r}
use Rattle.octets.specs.BoolLaws.{same_tests, holds, true_holds, both, both_left, both_right}

le_or : (a b : ℕ) → (a ≤ bit_or a b) × (b ≤ bit_or a b)
le_or a b = (omega (arith, or_add_and a b, and_le_r a b), omega (arith, or_add_and a b, and_le_l a b))

-- the or is below 2^k where both are
pub or_below : (k a b : ℕ) → ltb (bit_or a b) (2 ^ k) ≡ ltb a (2 ^ k) && ltb b (2 ^ k)
or_below k a b =
    same_tests (ltb (bit_or a b) (2 ^ k)) (ltb a (2 ^ k) && ltb b (2 ^ k))
    (λ t.
    let h = ltb-true (bit_or a b) (2 ^ k) (holds _ t) in
    both (ltb a (2 ^ k)) (ltb b (2 ^ k)) (true_holds _ (lt-ltb a (2 ^ k) (omega (arith, (le_or a b).0)))) (true_holds _ (lt-ltb b (2 ^ k) (omega (arith, (le_or a b).1)))))
    (λ t. true_holds _ (lt-ltb _ _ (or_lt k a b
    (ltb-true _ _ (holds _ (both_left (ltb a (2 ^ k)) (ltb b (2 ^ k)) t)))
    (ltb-true _ _ (holds _ (both_right (ltb a (2 ^ k)) (ltb b (2 ^ k)) t))))))

-- the or is zero where both are
pub or_zero : (a b : ℕ) → eqb (bit_or a b) 0 ≡ eqb a 0 && eqb b 0
or_zero a b =
    same_tests (eqb (bit_or a b) 0) (eqb a 0 && eqb b 0)
    (λ t.
    let h = eqb-true (bit_or a b) 0 (holds _ t) in
    both (eqb a 0) (eqb b 0) (true_holds _ (eq-eqb a 0 (omega (arith, (le_or a b).0)))) (true_holds _ (eq-eqb b 0 (omega (arith, (le_or a b).1)))))
    (λ t.
    let h = eqb-true a 0 (holds _ (both_left (eqb a 0) (eqb b 0) t)) in
    let k = eqb-true b 0 (holds _ (both_right (eqb a 0) (eqb b 0) t)) in
    true_holds _ (eq-eqb (bit_or a b) 0 (rw (h, k) (or_zero_l 0))))
