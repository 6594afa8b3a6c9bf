-- Laws of the padded message, byte by byte.
use Rattle.std.specs.Prelude.{◌≡◌, refl, ◌∷◌, ◌++◌, ℕ, zero, suc, ◌+◌, ◌-◌, ◌*◌, ◌/◌, ◌%◌, ◌^◌, ◌≤◌, ◌<◌, length, get_or, drop}
use Rattle.std.proofs.Common.{sym, ap, ◌∙◌, mul_assoc, pow-suc, arith, length-append, drop-cons, get_or-append-add}
use Rattle.std.proofs.Math.ListN.{get_or-append, get_or-eq_default}
use Rattle.std.proofs.Math.Seq.{get_or-append_seam}
use Rattle.octets.specs.Bytes.{Bytes, digits, be64, zeros, value_from, at32}
use Rattle.octets.specs.NumberLaws.{length_zeros, zeros_at, length_digits}
use Rattle.fips180.specs.Sha256.{zeros_of, padded}

-- the place of the length, eight bytes before the end
abbrev pub length_at : Bytes → ℕ
length_at m = (length m + 72) / 64 * 64 - 8

pub length_padded : (m : Bytes) → length (padded m) ≡ (length m + 72) / 64 * 64
unfolding padded zeros_of
length_padded m = simp (length-append, length_zeros, length_digits) (omega arith)

pub blocks_count : (m : Bytes) → length (padded m) / 64 ≡ (length m + 72) / 64
blocks_count m = rw length_padded (omega arith)

pub padded_message : (m : Bytes) (i : ℕ) → i < length m → get_or (padded m) i 0 ≡ get_or m i 0
unfolding padded
padded_message m i h = get_or-append m _ 0 i h

pub padded_mark : (m : Bytes) → get_or (padded m) (length m) 0 ≡ 0x80
unfolding padded
padded_mark m = get_or-append_seam m _ _ 0

pub padded_past : (m : Bytes) (i : ℕ) → (length m + 72) / 64 * 64 ≤ i → get_or (padded m) i 0 ≡ 0
padded_past m i h = get_or-eq_default (padded m) 0 (rw length_padded h)

-- byte k of what follows the mark, at its place i in the whole
padded_rest : (m : Bytes) (i k : ℕ) → i ≡ length m + suc k → get_or (padded m) i 0 ≡ get_or (zeros (zeros_of (length m)) ++ be64 (8 * length m)) k 0
unfolding padded
padded_rest m i k e = rw e (get_or-append-add m _ (suc k) 0)

zeros_first : (z : ℕ) (b : Bytes) (k : ℕ) → k < z → get_or (zeros z ++ b) k 0 ≡ 0
zeros_first z b k h = get_or-append (zeros z) b 0 k (rw length_zeros h) ∙ zeros_at z k h

zeros_then : (z : ℕ) (b : Bytes) (j : ℕ) → get_or (zeros z ++ b) (z + j) 0 ≡ get_or b j 0
zeros_then z b j = ap (λ (n : ℕ). get_or (zeros z ++ b) (n + j) 0) (sym (length_zeros z)) ∙ get_or-append-add (zeros z) b j 0

pub padded_zero : (m : Bytes) (i : ℕ) → length m < i → i < length_at m → get_or (padded m) i 0 ≡ 0
unfolding zeros_of
padded_zero m i h l = padded_rest m i (i - length m - 1) (omega arith) ∙ zeros_first (zeros_of (length m)) (be64 (8 * length m)) (i - length m - 1) (omega arith)

pub padded_length : (m : Bytes) (j : ℕ) → get_or (padded m) (length_at m + j) 0 ≡ get_or (be64 (8 * length m)) j 0
unfolding zeros_of
padded_length m j = padded_rest m (length_at m + j) (zeros_of (length m) + j) (omega arith) ∙ zeros_then (zeros_of (length m)) (be64 (8 * length m)) j

-- the bytes of a number do not tell multiples of 256 ^ k
digits_carry : (k q r : ℕ) → digits k (q * 256 ^ k + r) ≡ digits k r
unfolding digits
digits_carry zero q r = refl
digits_carry (suc k) q r =
    let e : q * 256 ^ suc k ≡ q * 256 ^ k * 256 = ap (λ (x : ℕ). q * x) (pow-suc 256 k) ∙ sym (mul_assoc q (256 ^ k) 256) in
    let d : (q * 256 ^ suc k + r) / 256 ≡ q * 256 ^ k + r / 256 = omega arith in
    let m : (q * 256 ^ suc k + r) % 256 ≡ r % 256 = omega arith in
    rw (d, m, digits_carry k q (r / 256))

-- the length in bits, from the length n in bytes
pub length_bits : (n : ℕ) → be64 (n % 2 ^ 61 * 8) ≡ be64 (8 * n)
length_bits n =
    let e : 8 * n ≡ n / 2 ^ 61 * 256 ^ 8 + n % 2 ^ 61 * 8 = omega arith in
    rw e (sym (digits_carry 8 (n / 2 ^ 61) (n % 2 ^ 61 * 8)))

-- a number of four bytes, from its bytes
next : (p : Bytes) (i j : ℕ) → suc i ≡ j → i < length p → drop i p ≡ get_or p i 0 ∷ drop j p
next p i j e h = rw (← e) (drop-cons p i 0 h)

pub at32_bytes : (p : Bytes) (k : ℕ) → k + 4 ≤ length p
    → get_or p k 0 * 2 ^ 24 + get_or p (k + 1) 0 * 2 ^ 16 + get_or p (k + 2) 0 * 2 ^ 8 + get_or p (k + 3) 0 ≡ at32 p k
unfolding value_from
at32_bytes p k h =
    rw (next p k (k + 1) (omega arith) (omega arith), next p (k + 1) (k + 2) (omega arith) (omega arith), next p (k + 2) (k + 3) (omega arith) (omega arith), next p (k + 3) (k + 4) (omega arith) (omega arith))
    (omega arith)
