-- The key: lengths of what is fed, of the key and of its digits, and that they are bytes. For the steps of a raise, and for `key`, `build`,
-- `answers` and `metrics`.
use Rattle.std.specs.Prelude.{◌≡◌, refl, [], ◌∷◌, ◌++◌, Bool, true, false, cond, ℕ, zero, suc, ◌+◌, ◌-◌, ◌*◌, ◌/◌, ◌%◌, ◌≤◌, ltb, length, drop}
use Rattle.std.proofs.Common.{arith, length-append}
use Rattle.octets.specs.Bytes.{Bytes, digits}
use Rattle.octets.specs.NumberLaws.{length_be32}
use Rattle.fips180.specs.Sha256.{digest_of, sha256_of}
use Rattle.definition.specs.Value.{KeyValue}
use Rattle.definition.specs.Key.{string, digits_from, decimal, key_of, hex}

-- ---- what is fed

pub length_string : (s : Bytes) → length (string s) ≡ 4 + length s
length_string s = rw (length-append, length_be32)

-- ---- the queue's decimal digits

digits_most : (n q : ℕ) (d : Bytes) → length (digits_from n q d) ≤ n + length d
unfolding digits_from
digits_most zero q d = omega arith
digits_most (suc n) q d = go (ltb q 10) (digits_most n (q / 10) ((48 + q % 10) ∷ d))
  where
    go :
        (b : Bool) → length (digits_from n (q / 10) ((48 + q % 10) ∷ d)) ≤ n + suc (length d) →
        length (cond b ((48 + q % 10) ∷ d) (digits_from n (q / 10) ((48 + q % 10) ∷ d))) ≤ suc n + length d
    go true h = omega arith
    go false h = omega arith

pub length_decimal : (q : ℕ) → length (decimal q) ≤ 5
unfolding decimal
length_decimal q = digits_most 5 q []

-- the last five digits
abbrev pub five_digits : ℕ → Bytes
five_digits q = (48 + q / 10 / 10 / 10 / 10 % 10) ∷ (48 + q / 10 / 10 / 10 % 10) ∷ (48 + q / 10 / 10 % 10) ∷ (48 + q / 10 % 10) ∷ (48 + q % 10) ∷ []

-- the digits where the number, its tenth, .. have one digit or not
abbrev by_tests : ℕ → Bool → Bool → Bool → Bool → Bool → Bytes
by_tests q a b c d e =
    cond a (drop 4 (five_digits q)) (cond b (drop 3 (five_digits q)) (cond c (drop 2 (five_digits q)) (cond d (drop 1 (five_digits q)) (cond e (five_digits q) (five_digits q)))))

-- the decimal digits are the last ones of five
pub five_decimal : (q : ℕ) → drop (5 - length (decimal q)) (five_digits q) ≡ decimal q
unfolding digits_from decimal
five_decimal q = go (ltb q 10) (ltb (q / 10) 10) (ltb (q / 10 / 10) 10) (ltb (q / 10 / 10 / 10) 10) (ltb (q / 10 / 10 / 10 / 10) 10)
  where
    go : (a b c d e : Bool) → drop (5 - length (by_tests q a b c d e)) (five_digits q) ≡ by_tests q a b c d e
    go true b c d e = refl
    go false true c d e = refl
    go false false true d e = refl
    go false false false true e = refl
    go false false false false true = refl
    go false false false false false = refl

-- ---- the key's hexadecimal digits

pub length_hex : (s : Bytes) → length (hex s) ≡ 2 * length s
unfolding hex
length_hex [] = refl
length_hex (b ∷ s) = rw (length_hex s) (omega arith)

pub hex_append : (s t : Bytes) → hex (s ++ t) ≡ hex s ++ hex t
unfolding hex
hex_append [] t = refl
hex_append (b ∷ s) t = rw (hex_append s t)

-- ---- the key

pub length_key : (type : Bytes) (k : KeyValue) → length (key_of type k) ≡ 16
unfolding key_of sha256_of digest_of digits
length_key type k = refl
