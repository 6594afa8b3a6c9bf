-- Laws of the ruler: what it leaves of a room, byte by byte and as a whole.
use Rattle.std.specs.Prelude.{◌≡◌, refl, Bool, ◌&&◌, ltb, eqb, length, drop, replicate}
use Rattle.std.proofs.Common.{sym, ◌∙◌, lt-ltb, le-ltb, ne_eqb, drop_at}
use Rattle.std.proofs.Math.Path.{ap, ap₂}
use mathlib.Core.Logic.{◌⊎◌, inl, inr}
use mathlib.Core.List.{[], ◌∷◌, ◌++◌, append_assoc}
use Prim.Native.Nat.{ℕ, zero, suc, ◌+◌, ◌-◌, ◌≤◌, ◌<◌}
use Rattle.std.proofs.Math.Decide.{dec_lt}
use native.Mathlib.Omega.{arith}
use Rattle.std.specs.Int.Bits.{bit_and, bit_or}
use Rattle.std.proofs.lemmas.Nat.{and_mask}
use Rattle.std.proofs.Math.ListN.{take, length-append}
use Rattle.std.proofs.lemmas.List.{length-replicate, replicate-append-replicate}
use Rattle.std.proofs.Math.Seq.{take_at}
use Rattle.octets.specs.Bytes.{Bytes, Octets, same, zeros, blank}
use Rattle.octets.specs.BoolLaws.{and_assoc, and_true}
use Rattle.octets.specs.RangeLaws.{eq_on}
use Rattle.octets.specs.OrLaws.{or_zero}
use Rattle.utf8.specs.Meaning.{plain}
use Rattle.record_check.specs.Ruler.{highs, ones, ruler_bytes, under}

-- ---- byte by byte

pub under_length : (s r : Bytes) → length s ≡ length r → length (under s r) ≡ length s
unfolding under
under_length [] r h = refl
under_length (b ∷ s) [] h = absurd (omega arith)
under_length (b ∷ s) (m ∷ r) h = ap suc (under_length s r (omega arith))

first_zero : (x : ℕ) → eqb 0 x ≡ eqb x 0
first_zero zero = refl
first_zero (suc x) = rw (ne_eqb 0 (suc x) (omega arith), ne_eqb (suc x) 0 (omega arith))

-- one more byte, joined by or
pub under_turn :
    (x a b : ℕ) (s r : Bytes) → eqb x 0 && blank (under (a ∷ s) (b ∷ r)) ≡ eqb (bit_or x (bit_and a b)) 0 && blank (under s r)
unfolding under blank same zeros
under_turn x a b s r =
    let z = bit_and a b in
    ap (λ (t : Bool). eqb x 0 && (t && blank (under s r))) (first_zero z)
    ∙ sym (and_assoc (eqb x 0) (eqb z 0) (blank (under s r)))
    ∙ ap (λ (t : Bool). t && blank (under s r)) (sym (or_zero x z))

-- behind the shorter of the two nothing is left
pub under_end : (x : ℕ) (s r : Bytes) → (s ≡ []) ⊎ (r ≡ []) → eqb x 0 && blank (under s r) ≡ eqb x 0
unfolding under blank same zeros
under_end x s r (inl e) = rw e (and_true (eqb x 0))
under_end x [] r (inr e) = and_true (eqb x 0)
under_end x (b ∷ s) r (inr e) = rw e (and_true (eqb x 0))

-- ---- as a whole

split : (a b x : ℕ) {n : ℕ} → n ≡ a + b → replicate n x ≡ replicate a x ++ replicate b x
split a b x e = ap (λ (k : ℕ). replicate k x) e ∙ sym (replicate-append-replicate a b x)

-- ones, of which the first half is replaced by the highest bit
pub ruler_made : highs 512 ++ drop 512 (replicate 1024 255) ≡ ruler_bytes
unfolding ruler_bytes highs ones
ruler_made =
    ap (λ (r : Bytes). replicate 512 128 ++ drop 512 r) (split 512 512 255 {n = 1024} refl)
    ∙ ap (◌++◌ (replicate 512 128)) (drop_at (replicate 512 255) (replicate 512 255) 512 (length-replicate {A = ℕ} 512 255))

-- two rows of the highest bit, and two of ones
pub ruler_rows : take 1024 (highs 256 ++ (highs 256 ++ (ones 256 ++ (ones 256 ++ [])))) ≡ ruler_bytes
unfolding ruler_bytes highs ones
ruler_rows = refl

pub length_ruler : length ruler_bytes ≡ 1024
unfolding ruler_bytes highs ones
length_ruler = length-append {A = ℕ} (replicate 512 128) (replicate 512 255) ∙ ap₂ ◌+◌ (length-replicate {A = ℕ} 512 128) (length-replicate {A = ℕ} 512 255)

module _ (m k j : ℕ) (h : 512 ≡ j + m) (l : k ≤ 512) where
  whole : ruler_bytes ≡ highs j ++ ((highs m ++ ones k) ++ ones (512 - k))
  unfolding ruler_bytes highs ones
  whole =
      let f : 512 ≡ k + (512 - k) = omega arith in
      ap₂ ◌++◌ (split j m 128 h) (split k (512 - k) 255 f)
      ∙ append_assoc (highs j) (highs m) (ones k ++ ones (512 - k))
      ∙ ap (◌++◌ (highs j)) (sym (append_assoc (highs m) (ones k) (ones (512 - k))))

  width : length (highs m ++ ones k) ≡ m + k
  unfolding highs ones
  width = length-append (highs m) (ones k) ∙ ap₂ ◌+◌ (length-replicate m 128) (length-replicate k 255)

  -- the ruler laid so that its highest bits end after m bytes
  laid : take (m + k) (drop j ruler_bytes) ≡ highs m ++ ones k
  unfolding highs
  laid =
      ap (λ (r : Bytes). take (m + k) (drop j r)) whole
      ∙ ap (take (m + k)) (drop_at (highs j) ((highs m ++ ones k) ++ ones (512 - k)) j (length-replicate j 128))
      ∙ take_at (highs m ++ ones k) (ones (512 - k)) (m + k) width

-- the highest bit is not set where a byte is ASCII
high : (b : ℕ) → b < 256 → eqb 0 (bit_and b 128) ≡ ltb b 128
high b h = go (dec_lt b 128)
  where
    go : Dec (b < 128) → eqb 0 (bit_and b 128) ≡ ltb b 128
    go (yes l) = ap (eqb 0) (sym (eq_on (λ (x : ℕ). bit_and x 128) 0 128 0 tt b (omega arith) (omega arith))) ∙ sym (lt-ltb b 128 l)
    go (no l) = ap (eqb 0) (sym (eq_on (λ (x : ℕ). bit_and x 128) 128 128 128 tt b (omega arith) (omega arith))) ∙ sym (le-ltb b 128 (omega arith))

kept : (b : ℕ) → b < 256 → bit_and b 255 ≡ b
kept b h = and_mask b 8 ∙ (omega arith)

leaves : (s : Bytes) (m k : ℕ) → length s ≡ m + k → Octets s → blank (under s (highs m ++ ones k)) ≡ plain (take m s) && blank (drop m s)
unfolding under highs ones plain blank same zeros
leaves [] zero zero h o = refl
leaves [] zero (suc k) h o = absurd (omega arith)
leaves [] (suc m) k h o = absurd (omega arith)
leaves (b ∷ s) zero zero h o = absurd (omega arith)
leaves (b ∷ s) zero (suc k) h o = ap₂ (λ (x : ℕ) (y : Bool). eqb 0 x && y) (kept b (o 0)) (leaves s zero k (omega arith) (λ i. o (suc i)))
leaves (b ∷ s) (suc m) k h o =
    ap₂ ◌&&◌ (high b (o 0)) (leaves s m k (omega arith) (λ i. o (suc i)))
    ∙ sym (and_assoc (ltb b 128) (plain (take m s)) (blank (drop m s)))

-- what the ruler leaves of a room whose first m bytes are its string
pub left_of_room :
    (s : Bytes) (m : ℕ) → m ≤ length s → length s ≤ 512 → Octets s →
    blank (under s (take (length s) (drop (512 - m) ruler_bytes))) ≡ plain (take m s) && blank (drop m s)
left_of_room s m l h o =
    let e : length s ≡ m + (length s - m) = omega arith in
    ap (λ (n : ℕ). blank (under s (take n (drop (512 - m) ruler_bytes)))) e
    ∙ ap (λ (r : Bytes). blank (under s r)) (laid m (length s - m) (512 - m) (omega arith) (omega arith))
    ∙ leaves s m (length s - m) e o
