-- A rule over a range of numbers, by one test that is computed.
use Rattle.std.specs.Prelude.{◌≡◌, Bool, true, ◌&&◌, ℕ, zero, suc, ◌+◌, ◌≤◌, ◌<◌, T, eqb}
use Rattle.std.proofs.Common.{subst, arith, eqb→eq}
use Rattle.std.proofs.Math.Decide.{dec_lt}
use Rattle.octets.specs.BoolLaws.{both_left, both_right}

-- the test passes at lo and the n - 1 numbers after it
abbrev pub upto : (ℕ → Bool) → ℕ → ℕ → Bool
upto P zero lo = true
upto P (suc n) lo = P lo && upto P n (suc lo)

pub on_range : (P : ℕ → Bool) (n lo : ℕ) → T (upto P n lo) → (b : ℕ) → lo ≤ b → b < lo + n → T (P b)
on_range P zero lo t b h k = absurd (omega arith)
on_range P (suc n) lo t b h k = go (dec_lt lo b) (λ l. on_range P n (suc lo) (both_right (P lo) (upto P n (suc lo)) t) b l (omega arith))
  where
    go : Dec (lo < b) → (lo < b → T (P b)) → T (P b)
    go (yes l) ih = ih l
    go (no l) ih = subst (λ (m : ℕ). T (P m)) (omega arith) (both_left (P lo) (upto P n (suc lo)) t)

-- the number v is what f gives at each number of a range
pub eq_on : (f : ℕ → ℕ) (v n lo : ℕ) → T (upto (λ (b : ℕ). eqb v (f b)) n lo) → (b : ℕ) → lo ≤ b → b < lo + n → v ≡ f b
eq_on f v n lo t b h k = eqb→eq v (f b) (on_range (λ (x : ℕ). eqb v (f x)) n lo t b h k)
