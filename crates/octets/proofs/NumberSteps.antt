-- Numbers byte by byte: the steps of the loop that reads them, and what std reads. Assumes nothing.
use mathlib.Core.Path.{◌≡◌, refl, sym, ap, ap₂, ◌∙◌}
use mathlib.Core.List.{[], ◌∷◌, ◌++◌}
use Prim.Native.Nat.{ℕ, zero, suc, ◌+◌, ◌*◌, ◌/◌, ◌%◌, ◌^◌, ◌≤◌, ◌<◌}
use native.Mathlib.Nat.{pow-suc, pow-le-pow_right, lt_of_lt_of_le, div-div-eq-div-mul, mul_comm}
use native.Mathlib.Numerals.{add-one}
use native.Mathlib.Omega.{arith}
use lib.ListN.{length, take, drop, get_or, drop_of_length-le}
use lib.Seq.{drop-cons}
use Rattle.std.specs.Int.{byte_at, bytes_high_first}
use Rattle.octets.specs.Bytes.{Bytes, digits, value_from, value, number_at}
use Rattle.octets.specs.NumberLaws.{value_digits, high_first}

-- ---- read, from the first byte

pub value_step : (s : Bytes) (i v b : ℕ) → i < length s → b ≡ get_or s i 0 → value_from (v * 256 + b) (drop (i + 1) s) ≡ value_from v (drop i s)
unfolding value_from
value_step s i v b h e = rw (e, add-one, drop-cons s i 0)

pub value_end : (s : Bytes) (i v : ℕ) → length s ≤ i → value_from v (drop i s) ≡ v
unfolding value_from
value_end s i v h = rw (drop_of_length-le s h)

-- one byte more
pub grows : (i v b : ℕ) → v < 256 ^ i → b < 256 → v * 256 + b < 256 ^ (i + 1)
grows i v b h k = rw (add-one, pow-suc 256 i) (omega arith)

-- fewer than eight bytes leave room for one more
pub room : (i v : ℕ) → i < 8 → v < 256 ^ i → v < 256 ^ 7
room i v h k = let l : i ≤ 7 = omega arith in let z : 0 < 256 = omega arith in lt_of_lt_of_le k (pow-le-pow_right z l)

-- ---- read, as std does

-- a number whose bytes stand at a place is what is read there
pub read_back : (n : ℕ) (s : Bytes) (at v : ℕ) → v < 256 ^ n → bytes_high_first n v ≡ take n (drop at s) → v ≡ number_at n s at
read_back n s at v h e = sym (value_digits n v h) ∙ ap value (sym (high_first n v) ∙ e)
