-- Those of a list that pass a test: one by one, and counted from place to place.
use Rattle.std.specs.Prelude.{ℕ, ◌+◌, ◌≤◌, ◌≡◌, Bool, drop}
use Rattle.std.proofs.Math.Path.{refl, ap}
use Rattle.std.proofs.Common.{sym, ◌∙◌}
use mathlib.Core.List.{List, [], ◌∷◌}
use Rattle.std.proofs.Math.Bool.{true, false, cond}
use native.Mathlib.Omega.{arith}
use Rattle.std.proofs.Math.ListN.{length}
use Rattle.std.specs.Int.{from_bool}
use Rattle.definition.specs.Chain.{those}

-- one more where a test holds
pub more_if : (y : Bool) (n : ℕ) → n + from_bool y ≡ cond y (n + 1) n
more_if true n = refl
more_if false n = omega arith

pub one_at_most : (y : Bool) → from_bool y ≤ 1
one_at_most true = omega arith
one_at_most false = omega arith

module _ {A : Type 0} (t : A → Bool) where
  pub those_hit : (a : A) (l : List A) → t a ≡ true → those t (a ∷ l) ≡ a ∷ those t l
  unfolding those
  those_hit a l e = rw e

  pub those_miss : (a : A) (l : List A) → t a ≡ false → those t (a ∷ l) ≡ those t l
  unfolding those
  those_miss a l e = rw e

  -- one more in front
  pub those_count : (a : A) (l : List A) → length (those t (a ∷ l)) ≡ from_bool (t a) + length (those t l)
  unfolding those
  those_count a l = go (t a)
    where
      go : (y : Bool) → length (cond y (a ∷ those t l) (those t l)) ≡ from_bool y + length (those t l)
      go true = omega arith
      go false = omega arith

  pub those_few : (l : List A) → length (those t l) ≤ length l
  unfolding those
  those_few [] = omega arith
  those_few (a ∷ l) = go (t a) (those_few l)
    where
      go : (y : Bool) → length (those t l) ≤ length l → length (cond y (a ∷ those t l) (those t l)) ≤ length (a ∷ l)
      go true h = omega arith
      go false h = omega arith

  -- of the first k of l, n pass
  pub record Counted (l : List A) (k n : ℕ) : Type 0 where
    pub few : n ≤ k
    pub is : n + length (those t (drop k l)) ≡ length (those t l)

module _ {A : Type 0} {t : A → Bool} {l : List A} where
  module _ {k n : ℕ} (c : Counted t l k n) where
    pub counted_next : {a : A} {y : Bool} {m : ℕ} → drop k l ≡ a ∷ drop (k + 1) l → y ≡ t a → m ≡ cond y (n + 1) n → Counted t l (k + 1) m
    unfolding those
    counted_next {a} {y} here e em =
        let r = those t (drop (k + 1) l) in
        let more : cond (t a) (n + 1) n + length r ≡ n + length (cond (t a) (a ∷ r) r) = step (t a) in
        record {
          few = rw em (bound y);
          is = rw (em, e) (more ∙ ap (λ (d : List A). n + length (those t d)) (sym here) ∙ c.is);
        }
      where
        step : (s : Bool) → cond s (n + 1) n + length (those t (drop (k + 1) l)) ≡ n + length (cond s (a ∷ those t (drop (k + 1) l)) (those t (drop (k + 1) l)))
        step true = omega arith
        step false = refl

        bound : (s : Bool) → cond s (n + 1) n ≤ k + 1
        bound true = omega (arith, c.few)
        bound false = omega (arith, c.few)

    pub counted_all : drop k l ≡ [] → n ≡ length (those t l)
    unfolding those
    counted_all end =
        let e : n ≡ n + length (those t []) = omega arith in
        e ∙ ap (λ (d : List A). n + length (those t d)) (sym end) ∙ c.is
