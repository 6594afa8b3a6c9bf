-- Bytes compared by exclusive or.
use mathlib.Core.Path.{◌≡◌}
use mathlib.Core.Bool.{◌&&◌}
use Prim.Native.Nat.{ℕ, ◌+◌, ◌<◌}
use native.Mathlib.Numerals.{add-one}
use native.Mathlib.Omega.{arith}
use borrow.Author.Tests.{eqb-true, eq-eqb}
use lib.Bits.{bit_or, bit_xor, xor_self, xor_add_and, and_le_l, and_le_r}
use lib.Dec.{eqb}
use lib.ListN.{length, get_or, drop}
use lib.Seq.{drop-cons}
use Rattle.octets.specs.Bytes.{Bytes, same}
use Rattle.octets.specs.BoolLaws.{and_assoc, holds, true_holds, same_tests}
use Rattle.octets.specs.OrLaws.{or_zero}

xor_zero : (a b : ℕ) → eqb (bit_xor a b) 0 ≡ eqb a b
xor_zero a b =
    same_tests (eqb (bit_xor a b) 0) (eqb a b)
    (λ t.
    let h = eqb-true (bit_xor a b) 0 (holds _ t) in
    true_holds _ (eq-eqb a b (omega (arith, xor_add_and a b, and_le_l a b, and_le_r a b))))
    (λ t. true_holds _ (eq-eqb (bit_xor a b) 0 (rw (eqb-true a b (holds _ t)) (xor_self b))))

-- one more byte compared: the bytes passed and those to come decide
pub xor_step : (s t : Bytes) (i x : ℕ) → i < length s → i < length t
    → eqb (bit_or x (bit_xor (get_or s i 0) (get_or t i 0))) 0 && same (drop (i + 1) s) (drop (i + 1) t) ≡ eqb x 0 && same (drop i s) (drop i t)
unfolding same
xor_step s t i x h k = rw (or_zero, xor_zero, and_assoc, add-one, drop-cons s i 0 h, drop-cons t i 0 k)
