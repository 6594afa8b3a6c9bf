-- Laws of bytes that are all zero.
use Rattle.std.specs.Prelude.{◌≡◌, refl, true, ◌&&◌, [], ◌∷◌, ◌++◌, ℕ, zero, suc, ◌+◌, ◌<◌, T, eqb, length, take, get_or}
use Rattle.std.proofs.Common.{sym, ◌∙◌, add-one, arith, ne_eqb, take-suc}
use Rattle.std.specs.Int.Bits.{bit_or}
use Rattle.octets.specs.Bytes.{Bytes, same, zeros, blank}
use Rattle.octets.specs.BoolLaws.{and_assoc, and_true}
use Rattle.octets.specs.OrLaws.{or_zero}
use Rattle.octets.specs.SameLaws.{same→eq, same_refl}
use Rattle.octets.specs.NumberLaws.{length_zeros}

pub blank→zeros : (s : Bytes) → T (blank s) → s ≡ zeros (length s)
unfolding blank
blank→zeros s t = sym (same→eq (zeros (length s)) s t)

pub blank_zeros : (n : ℕ) → blank (zeros n) ≡ true
unfolding blank
blank_zeros n = rw (length_zeros n) (same_refl (zeros n))

pub blank_append : (s t : Bytes) → blank (s ++ t) ≡ blank s && blank t
unfolding blank same zeros
blank_append [] t = refl
blank_append (b ∷ s) t = rw (blank_append s t) (sym (and_assoc (eqb 0 b) (blank s) (blank t)))

-- ---- seen one by one

pub blank_none : blank [] ≡ true
unfolding blank same zeros
blank_none = refl

zero_first : (x : ℕ) → eqb 0 x ≡ eqb x 0
zero_first zero = refl
zero_first (suc x) = rw (ne_eqb 0 (suc x) (omega arith), ne_eqb (suc x) 0 (omega arith))

blank_one : (b : ℕ) → blank (b ∷ []) ≡ eqb b 0
unfolding blank same zeros
blank_one b = and_true (eqb 0 b) ∙ zero_first b

-- one more byte joined by or
pub blank_step : (s : Bytes) (i x : ℕ) → i < length s → eqb x 0 ≡ blank (take i s) → eqb (bit_or x (get_or s i 0)) 0 ≡ blank (take (i + 1) s)
blank_step s i x h e = or_zero x (get_or s i 0) ∙ rw (e, add-one, take-suc s i 0, blank_append, blank_one)
