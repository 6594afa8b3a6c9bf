-- Bits of numbers: how the code's arithmetic on bytes and the definition's bits meet.
use Rattle.std.specs.Prelude.{ℕ, zero, suc, ◌+◌, ◌-◌, ◌*◌, ◌/◌, ◌%◌, ◌^◌, ◌≤◌, ◌<◌, ◌≡◌, refl, Bool, true, false, cond, ◌&&◌, ◌||◌, eqb}
use Rattle.std.proofs.Common.{sym, ap, ap₂, ◌∙◌, arith, add_comm, pow-suc, mod-lt, zero-lt-suc, pow_pos, pow_mono, shr-shr, eqb-true}
use Rattle.std.proofs.Math.Bool.{and-true, and-false, or-false}
use Rattle.std.proofs.Math.Nat.{div-eq_of_lt, div-eq_of_lt-le}
use Rattle.std.proofs.Math.Dec.{eqb-zero-suc, eqb-suc-zero, eqb-suc-suc}
use Rattle.std.proofs.Math.Arith.{lt_of_le-ne}
use Rattle.std.proofs.lemmas.Nat.{mod-pow-add, and_shr, and_mod, or_shr, or_mod, or_shifted, leading_top}
use Rattle.std.specs.Int.Bits.{bit_and, bit_or}
use Rattle.std.specs.Int.Count.{count_leading_zeros, leading_of_zero}
use Rattle.std.proofs.lemmas.Bool.{eqb-false}
use Rattle.definition.specs.Panel.{is_set, by_bits, highest}

-- ---- one bit

-- a number below 2
digit : (P : ℕ → Type 0) → P 0 → P 1 → (x : ℕ) → x < 2 → P x
digit P a b zero h = a
digit P a b (suc zero) h = b
digit P a b (suc (suc x)) h = absurd (omega arith)

bit_lt : (v s : ℕ) → v / 2 ^ s % 2 < 2
bit_lt v s = mod-lt (v / 2 ^ s) (zero-lt-suc 1)

-- an operation that goes bit by bit: g gives a bit of what it makes from the bits of a and b
module _ (op : ℕ → ℕ → ℕ) (g : Bool → Bool → Bool) (shr : (a b k : ℕ) → op a b / 2 ^ k ≡ op (a / 2 ^ k) (b / 2 ^ k))
    (rem : (a b k : ℕ) → op a b % 2 ^ k ≡ op (a % 2 ^ k) (b % 2 ^ k)) (bit : (x y : ℕ) → x < 2 → y < 2 → eqb (op x y) 1 ≡ g (eqb x 1) (eqb y 1)) where
  set_each : (a b s : ℕ) → is_set (op a b) s ≡ g (is_set a s) (is_set b s)
  set_each a b s =
      ap (λ (x : ℕ). eqb (x % 2) 1) (shr a b s) ∙ ap (λ (x : ℕ). eqb x 1) (rem (a / 2 ^ s) (b / 2 ^ s) 1) ∙ bit (a / 2 ^ s % 2) (b / 2 ^ s % 2) (bit_lt a s) (bit_lt b s)

-- set in both
pub set_and : (a b s : ℕ) → is_set (bit_and a b) s ≡ is_set a s && is_set b s
set_and =
    set_each bit_and ◌&&◌ and_shr and_mod
    (λ x y h l. digit (λ (i : ℕ). eqb (bit_and i y) 1 ≡ eqb i 1 && eqb y 1) refl (digit (λ (j : ℕ). eqb (bit_and 1 j) 1 ≡ eqb j 1) refl refl y l) x h)

-- set in one or the other
pub set_or : (a b s : ℕ) → is_set (bit_or a b) s ≡ is_set a s || is_set b s
set_or =
    set_each bit_or ◌||◌ or_shr or_mod
    (λ x y h l. digit (λ (i : ℕ). eqb (bit_or i y) 1 ≡ eqb i 1 || eqb y 1) refl (digit (λ (j : ℕ). eqb (bit_or 1 j) 1 ≡ true) refl refl y l) x h)

-- no bit of 0, and none above a number
set_above : (v s : ℕ) → v < 2 ^ s → is_set v s ≡ false
set_above v s h = rw (div-eq_of_lt h)

pub set_zero : (s : ℕ) → is_set 0 s ≡ false
set_zero s = set_above 0 s (pow_pos s)

-- the bits of half a number
set_half : (v s : ℕ) → is_set v (suc s) ≡ is_set (v / 2) s
set_half v s = let e : suc s ≡ 1 + s = omega arith in ap (is_set v) e ∙ ap (λ (x : ℕ). eqb (x % 2) 1) (sym (shr-shr v 1 s))

-- of a power of two, one bit
pub set_power : (v s : ℕ) → is_set (2 ^ v) s ≡ eqb v s
set_power zero zero = refl
set_power zero (suc s) = set_half 1 s ∙ set_zero s ∙ sym (eqb-zero-suc s)
set_power (suc v) zero =
    let e : 2 ^ suc v / 1 % 2 ≡ 0 = omega (arith, pow-suc 2 v) in
    ap (λ (x : ℕ). eqb x 1) e ∙ sym (eqb-suc-zero v)
set_power (suc v) (suc s) =
    let e : 2 ^ suc v / 2 ≡ 2 ^ v = omega (arith, pow-suc 2 v) in
    set_half (2 ^ suc v) s ∙ ap (λ (x : ℕ). is_set x s) e ∙ set_power v s ∙ sym (eqb-suc-suc v s)

-- ---- a number by its bits

-- of functions that agree below n
pub bits_same : (n : ℕ) {f g : ℕ → Bool} → ((s : ℕ) → s < n → f s ≡ g s) → by_bits n f ≡ by_bits n g
unfolding by_bits
bits_same zero e = refl
bits_same (suc n) e = ap₂ (λ (x : ℕ) (y : Bool). x + cond y (2 ^ n) 0) (bits_same n (λ s h. e s (omega arith))) (e n (omega arith))

-- a number's own bits are the number
pub bits_own : (n v : ℕ) → by_bits n (is_set v) ≡ v % 2 ^ n
unfolding by_bits
bits_own zero v = omega arith
bits_own (suc n) v =
    let e : 1 + n ≡ suc n = omega arith in
    ap₂ ◌+◌ (bits_own n v) (top (v / 2 ^ n % 2) (bit_lt v n)) ∙ add_comm (v % 2 ^ n) _ ∙ sym (mod-pow-add v 1 n) ∙ ap (λ (i : ℕ). v % 2 ^ i) e
  where
    top : (x : ℕ) → x < 2 → cond (eqb x 1) (2 ^ n) 0 ≡ x * 2 ^ n
    top = digit (λ (x : ℕ). cond (eqb x 1) (2 ^ n) 0 ≡ x * 2 ^ n) (omega arith) (omega arith)

bits_below : (n : ℕ) (f : ℕ → Bool) → by_bits n f < 2 ^ n
unfolding by_bits
bits_below zero f = omega arith
bits_below (suc n) f = go (f n) (bits_below n f)
  where
    go : (y : Bool) → by_bits n f < 2 ^ n → by_bits n f + cond y (2 ^ n) 0 < 2 ^ suc n
    go true h = omega (arith, pow-suc 2 n)
    go false h = omega (arith, pow-suc 2 n)

-- "bit s is 1 exactly if ..": bit s of the number that is made of f's bits
pub bits_are : (n : ℕ) (f : ℕ → Bool) (s : ℕ) → s < n → is_set (by_bits n f) s ≡ f s
unfolding by_bits
bits_are zero f s h = absurd (omega arith)
bits_are (suc n) f s h = joined (f n) ∙ go (eqb n s) refl (bits_are n f s)
  where
    r : ℕ
    r = by_bits n f

    -- the bit on top, or one of those below
    joined : (y : Bool) → is_set (r + cond y (2 ^ n) 0) s ≡ (eqb n s && y) || is_set r s
    joined true =
        ap (λ (x : ℕ). is_set x s) (omega (arith, or_shifted 1 n r (bits_below n f))) ∙ set_or (1 * 2 ^ n) r s
        ∙ ap (λ (y : Bool). y || is_set r s) (ap (λ (x : ℕ). is_set x s) (omega arith) ∙ set_power n s ∙ sym (and-true (eqb n s)))
    joined false = ap (λ (x : ℕ). is_set x s) (omega arith) ∙ ap (λ (y : Bool). y || is_set r s) (sym (and-false (eqb n s)))

    go : (y : Bool) → eqb n s ≡ y → (s < n → is_set r s ≡ f s) → (eqb n s && f n) || is_set r s ≡ f s
    go true e below = rw (e, ← eqb-true n s e, set_above r n (bits_below n f)) (or-false (f n))
    go false e below = rw e (below (lt_of_le-ne (omega arith) (λ q. eqb-false n s e (sym q))))

-- ---- the highest bit

pub highest_same : (n : ℕ) {f g : ℕ → Bool} → ((s : ℕ) → s < n → f s ≡ g s) → highest n f ≡ highest n g
unfolding highest
highest_same zero e = refl
highest_same (suc n) e = ap₂ (λ (y : Bool) (x : ℕ). cond y (suc n) x) (e n (omega arith)) (highest_same n (λ s h. e s (omega arith)))

-- none is set
highest_none : (n : ℕ) {f : ℕ → Bool} → ((s : ℕ) → f s ≡ false) → highest n f ≡ 0
unfolding highest
highest_none zero e = refl
highest_none (suc n) e = rw (e n) (highest_none n e)

-- bit j is set, and none above it
highest_at : (n j : ℕ) {f : ℕ → Bool} → j < n → f j ≡ true → ((s : ℕ) → j < s → f s ≡ false) → highest n f ≡ suc j
unfolding highest
highest_at zero j h e q = absurd (omega arith)
highest_at (suc n) j {f} h e q = go (eqb j n) refl (λ l. highest_at n j l e q)
  where
    go : (y : Bool) → eqb j n ≡ y → (j < n → highest n f ≡ suc j) → cond (f n) (suc n) (highest n f) ≡ suc j
    go true p below = rw (← eqb-true j n p, e)
    go false p below = let l : j < n = lt_of_le-ne (omega arith) (eqb-false j n p) in rw (q n l) (below l)

-- what leading zeros leave of n bits
pub leading_highest : (n v : ℕ) → v < 2 ^ n → n - count_leading_zeros n v ≡ highest n (is_set v)
leading_highest n zero h = omega (arith, leading_of_zero n, highest_none n {f = is_set 0} set_zero)
leading_highest n (suc v) h =
    let t = leading_top n (suc v) (zero-lt-suc v) h in
    let j = t.0 in
    omega (arith, t.1, highest_at n j {f = is_set (suc v)} (omega (arith, t.1)) (one j t.2 t.3) (λ s l. set_above (suc v) s (above j s l t.3)))
  where
    one : (j : ℕ) → 2 ^ j ≤ suc v → suc v < 2 ^ suc j → is_set (suc v) j ≡ true
    one j a b = rw (div-eq_of_lt-le {k = 1} (2 ^ j) {m = suc v} (omega arith) (omega (arith, pow-suc 2 j)))

    above : (j s : ℕ) → j < s → suc v < 2 ^ suc j → suc v < 2 ^ s
    above j s l b = omega (arith, pow_mono {i = suc j} {j = s} l)
