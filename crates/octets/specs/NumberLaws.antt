-- Laws of zeros, of padding, and of numbers in bytes; each law of numbers is over their width.
use Rattle.std.specs.Prelude.{◌≡◌, refl, [], ◌∷◌, ◌++◌, ℕ, zero, suc, ◌+◌, ◌*◌, ◌/◌, ◌%◌, ◌-◌, ◌^◌, ◌≤◌, ◌<◌, length, take, drop, get_or}
use Rattle.std.proofs.Common.{sym, ap, ap₂, ◌∙◌, subst, append_assoc, append-nil, add-zero, zero-add, lt_of_lt_of_le, mul-le-mul_right, div-add-mod', div-lt_iff_lt-mul, pow-suc, mul_comm, mul_assoc, arith, length-append, length-take, take_at, get_or-take, get_or-drop}
use Rattle.std.proofs.Math.Decide.{dec_lt}
use Rattle.std.proofs.lemmas.List.{length-replicate, get_or-replicate, replicate-append-replicate}
use Rattle.std.proofs.Math.ListN.{get_or-eq_default}
use Rattle.std.proofs.Math.Seq.{take-append-add, drop-append-add}
use Rattle.std.proofs.Math.Nat.{div-div-eq-div-mul}
use Rattle.std.specs.Int.{byte_at, bytes_high_first}
use Rattle.octets.specs.Bytes.{Bytes, Octets, zeros, pad, digits, be32, value_from, value, number_at, at32}
use Rattle.octets.specs.PartLaws.{part_length}

-- ---- zeros

pub length_zeros : (n : ℕ) → length (zeros n) ≡ n
unfolding zeros
length_zeros n = length-replicate n 0

pub zeros_none : zeros 0 ≡ []
unfolding zeros
zeros_none = refl

pub zeros_append : (m n : ℕ) → zeros m ++ zeros n ≡ zeros (m + n)
unfolding zeros
zeros_append m n = replicate-append-replicate {A = ℕ} m n 0

pub zeros_at : (n i : ℕ) → i < n → get_or (zeros n) i 0 ≡ 0
unfolding zeros
zeros_at n i h = get_or-replicate n i 0 0 h

-- ---- padding

pub length_pad : (n : ℕ) (s : Bytes) → length (pad n s) ≡ n
unfolding pad
length_pad n s = rw (length-take, length-append, length_zeros) (omega arith)

-- bytes that fit have their zeros behind them
pub pad_fits : (n : ℕ) (s : Bytes) → length s ≤ n → pad n s ≡ s ++ zeros (n - length s)
unfolding pad
pad_fits n s h =
    let m = n - length s in
    let e : n ≡ length s + m = omega arith in
    let e' : m + length s ≡ n = omega arith in
    let z : zeros n ≡ zeros m ++ zeros (length s) = rw (zeros_append, e') in
    ap (λ (k : ℕ). take k (s ++ zeros n)) e ∙ take-append-add s (zeros n) m
    ∙ ap (λ (t : Bytes). s ++ t) (ap (take m) z ∙ take_at (zeros m) (zeros (length s)) m (length_zeros m))

pub take_pad : (n : ℕ) (s : Bytes) → length s ≤ n → take (length s) (pad n s) ≡ s
take_pad n s h = rw (pad_fits n s h) (take_at s (zeros (n - length s)) (length s) refl)

pub pad_whole : (n : ℕ) (s : Bytes) → length s ≡ n → pad n s ≡ s
unfolding pad
pad_whole n s h = take_at s (zeros n) n h

-- ---- numbers and their bytes

pub length_digits : (n v : ℕ) → length (digits n v) ≡ n
unfolding digits
length_digits zero v = refl
length_digits (suc n) v = rw (length-append, length_digits n (v / 256)) (omega arith)

value_from_snoc : (v : ℕ) (s : Bytes) (b : ℕ) → value_from v (s ++ (b ∷ [])) ≡ value_from v s * 256 + b
unfolding value_from
value_from_snoc v [] b = refl
value_from_snoc v (x ∷ s) b = value_from_snoc (v * 256 + x) s b

-- a number that fits is read back
pub value_digits : (n v : ℕ) → v < 256 ^ n → value (digits n v) ≡ v
unfolding digits value_from
value_digits zero v h = let k : v < 1 = h in omega arith
value_digits (suc n) v h =
    let l : v / 256 < 256 ^ n = (div-lt_iff_lt-mul {k = 256} (omega arith)).1 (subst (λ (x : ℕ). v < x) (pow-suc 256 n) h) in
    value_from_snoc 0 (digits n (v / 256)) (v % 256) ∙ ap (λ (x : ℕ). x * 256 + v % 256) (value_digits n (v / 256) l) ∙ div-add-mod' v 256

pub octets_tail : (b : ℕ) (s : Bytes) → Octets (b ∷ s) → Octets s
octets_tail b s h i = h (suc i)

pub octets_drop : (k : ℕ) (s : Bytes) → Octets s → Octets (drop k s)
octets_drop k s h i = rw get_or-drop (h (k + i))

pub octets_take : (n : ℕ) (s : Bytes) → Octets s → Octets (take n s)
octets_take n s h i =
    elim (dec_lt i n) [
      | yes l ↦ rw (get_or-take n s i 0 l) (h i)
      | no l ↦ rw (get_or-eq_default (take n s) 0 {n = i} (omega (arith, length-take n s))) (omega arith)
    ]

digits_from_lem : (m v : ℕ) (s : Bytes) → Octets s → digits (m + length s) (value_from v s) ≡ digits m v ++ s
unfolding value_from digits
digits_from_lem m v [] h = rw (add-zero, append-nil)
digits_from_lem m v (b ∷ s) h =
    let b256 : b < 256 = h 0 in
    let q : (v * 256 + b) / 256 ≡ v = omega arith in
    let r : (v * 256 + b) % 256 ≡ b = omega arith in
    let e : m + suc (length s) ≡ suc m + length s = omega arith in
    ap (λ (k : ℕ). digits k (value_from (v * 256 + b) s)) e
    ∙ digits_from_lem (suc m) (v * 256 + b) s (octets_tail b s h)
    ∙ rw (q, r) (append_assoc (digits m v) (b ∷ []) s)

-- bytes are those of their number
pub digits_value : (n : ℕ) (s : Bytes) → length s ≡ n → Octets s → digits n (value s) ≡ s
unfolding digits
digits_value n s e h = ap (λ (k : ℕ). digits k (value s)) (sym e ∙ sym (zero-add (length s))) ∙ digits_from_lem 0 0 s h

value_from_lt : (v : ℕ) (s : Bytes) → Octets s → value_from v s < suc v * 256 ^ length s
unfolding value_from
value_from_lt v [] h = omega arith
value_from_lt v (b ∷ s) h =
    let ih = value_from_lt (v * 256 + b) s (octets_tail b s h) in
    let b256 : b < 256 = h 0 in
    let e : suc v * 256 ^ suc (length s) ≡ suc v * 256 * 256 ^ length s =
    ap (λ (x : ℕ). suc v * x) (pow-suc 256 (length s) ∙ mul_comm (256 ^ length s) 256) ∙ sym (mul_assoc (suc v) 256 (256 ^ length s)) in
    lt_of_lt_of_le ih (subst (λ (x : ℕ). suc (v * 256 + b) * 256 ^ length s ≤ x) (sym e) (mul-le-mul_right (256 ^ length s) (omega arith)))

pub value_lt : (s : Bytes) → Octets s → value s < 256 ^ length s
value_lt s h = let k = value_from_lt 0 s h in omega arith

-- ---- numbers at a place

module _ (n : ℕ) where
  -- a number that fits is read back from its bytes
  pub number_digits : (v : ℕ) (r : Bytes) → v < 256 ^ n → number_at n (digits n v ++ r) 0 ≡ v
  number_digits v r h = ap value (take_at (digits n v) r n (length_digits n v)) ∙ value_digits n v h

  -- a number is read past a front part
  pub number_append : (a b : Bytes) (k : ℕ) → number_at n (a ++ b) (length a + k) ≡ number_at n b k
  number_append a b k = rw drop-append-add

  -- the bytes at a place are those of the number there
  pub digits_number : (b : Bytes) (k : ℕ) → Octets b → k + n ≤ length b → digits n (number_at n b k) ≡ take n (drop k b)
  digits_number b k h l = digits_value n (take n (drop k b)) (part_length b k n l) (octets_take n (drop k b) (octets_drop k b h))

  pub number_lt : (b : Bytes) (k : ℕ) → Octets b → k + n ≤ length b → number_at n b k < 256 ^ n
  number_lt b k h l = rw (part_length b k n l) at (value_lt (take n (drop k b)) (octets_take n (drop k b) (octets_drop k b h)))

-- ---- numbers of four bytes

pub length_be32 : (v : ℕ) → length (be32 v) ≡ 4
length_be32 v = length_digits 4 v

pub at32_be32 : (v : ℕ) (r : Bytes) → v < 4294967296 → at32 (be32 v ++ r) 0 ≡ v
at32_be32 v r h = number_digits 4 v r h

pub at32_append : (a b : Bytes) (k : ℕ) → at32 (a ++ b) (length a + k) ≡ at32 b k
at32_append a b k = number_append 4 a b k

pub be32_at32 : (b : Bytes) (k : ℕ) → Octets b → k + 4 ≤ length b → be32 (at32 b k) ≡ take 4 (drop k b)
be32_at32 b k h l = digits_number 4 b k h l

-- ---- the bytes that `to_be_bytes` gives

byte_above : (k v : ℕ) → byte_at k (v / 256) ≡ byte_at (suc k) v
byte_above zero v = refl
byte_above (suc k) v = rw (div-div-eq-div-mul v 256 (256 ^ suc k), mul_comm 256 (256 ^ suc k), ← pow-suc 256 (suc k))

pub high_first : (n v : ℕ) → bytes_high_first n v ≡ digits n v
unfolding digits
high_first zero v = refl
high_first (suc n) v = front n v ∙ ap (λ (s : Bytes). s ++ (v % 256 ∷ [])) (high_first n (v / 256))
  where
    front : (n v : ℕ) → bytes_high_first (suc n) v ≡ bytes_high_first n (v / 256) ++ (v % 256 ∷ [])
    front zero v = refl
    front (suc n) v = ap₂ ◌∷◌ (sym (byte_above n v)) (front n v)
