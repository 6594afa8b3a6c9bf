-- Sums over 1 to n: as many different numbers of 1 to n as there are, are all of them. For "every record on exactly one chain" in the check
-- and in the book's tests.
use Rattle.std.specs.Prelude.{◌≡◌, refl, List, [], ◌∷◌, cond, ℕ, zero, suc, ◌+◌, ◌≤◌, ◌<◌, eqb, length}
use Rattle.std.proofs.Common.{ap, ◌∙◌, arith, eq-eqb, ne_eqb}
use Rattle.std.proofs.Math.Decide.{ℕ_discrete}
use Rattle.octets.specs.Bytes.{Bytes}
use Rattle.definition.specs.Book.{Record, Book, total}
use Rattle.definition.proofs.Laws.Book.ChangedChain.{lengths}
use Rattle.definition.specs.Chain.{times}
use Rattle.definition.proofs.Laws.Book.Occurrences.{times_cons, times_hit, times_nil}
use Rattle.definition.specs.Clauses.LegalBook.{chain}

unfoldable pub sum_to : (ℕ → ℕ) → ℕ → ℕ
sum_to f zero = 0
sum_to f (suc n) = f (suc n) + sum_to f n

sum_add : (f g h : ℕ → ℕ) (n : ℕ) → ((j : ℕ) → h j ≡ f j + g j) → sum_to h n ≡ sum_to f n + sum_to g n
unfolding sum_to
sum_add f g h zero e = refl
sum_add f g h (suc n) e = omega (arith, e (suc n), sum_add f g h n e)

sum_none : (f : ℕ → ℕ) (n : ℕ) → ((j : ℕ) → 1 ≤ j → j ≤ n → f j ≡ 0) → sum_to f n ≡ 0
unfolding sum_to
sum_none f zero e = refl
sum_none f (suc n) e = omega (arith, e (suc n) (omega arith) (omega arith), sum_none f n (λ j h l. e j h (omega arith)))

-- one number of 1 .. n is counted once
sum_one : (f : ℕ → ℕ) (n i : ℕ) → 1 ≤ i → i ≤ n → f i ≡ 1 → ((j : ℕ) → (i ≡ j → ⊥) → f j ≡ 0) → sum_to f n ≡ 1
unfolding sum_to
sum_one f zero i h l e o = absurd (omega arith)
sum_one f (suc n) i h l e o =
    elim (ℕ_discrete i (suc n)) [
      | yes q ↦ omega (arith, ap f q, sum_none f n (λ j u v. o j (λ w. omega arith)))
      | no q ↦ omega (arith, o (suc n) q, sum_one f n i h (omega arith) e o)
    ]

sum_le : (f : ℕ → ℕ) (n : ℕ) → ((j : ℕ) → f j ≤ 1) → sum_to f n ≤ n
unfolding sum_to
sum_le f zero h = omega arith
sum_le f (suc n) h = omega (arith, h (suc n), sum_le f n h)

pub sum_full : (f : ℕ → ℕ) (n : ℕ) → ((j : ℕ) → f j ≤ 1) → sum_to f n ≡ n → (j : ℕ) → 1 ≤ j → j ≤ n → f j ≡ 1
unfolding sum_to
sum_full f zero h e j u v = absurd (omega arith)
sum_full f (suc n) h e j u v =
    elim (ℕ_discrete j (suc n)) [
      | yes q ↦ ap f q ∙ omega (arith, h (suc n), sum_le f n h)
      | no q ↦ sum_full f n h (omega (arith, h (suc n), sum_le f n h)) j u (omega arith)
    ]

-- each record of a chain, whose indices are of 1 .. n, is counted once
sum_chain : (n : ℕ) (c : List Record) → ((j : ℕ) → 1 ≤ times j c → (1 ≤ j) × (j ≤ n)) → sum_to (λ j. times j c) n ≡ length c
unfolding times
sum_chain n [] h = sum_none (λ j. times {A = Bytes} j []) n (λ j _ _. times_nil Bytes j)
sum_chain n (e ∷ c) h =
    let own : (1 ≤ e.index) × (e.index ≤ n) = h e.index (omega (arith, times_hit e c e.index refl)) in
    sum_add (λ j. cond (eqb e.index j) 1 0) (λ j. times j c) (λ j. times j (e ∷ c)) n (λ j. refl)
    ∙ omega (
      arith,
      sum_one (λ j. cond (eqb e.index j) 1 0) n e.index own.0 own.1 (rw (eq-eqb e.index e.index refl)) (λ j k. rw (ne_eqb e.index j k)),
      sum_chain n c (λ j l. h j (omega (arith, times_cons e c j))),
    )

-- the indices of the four chains, where they are of 1 to n
pub sum_total : (n : ℕ) (s : Book) → ((x : ℕ) → x < 4 → (j : ℕ) → 1 ≤ times j (chain x s) → (1 ≤ j) × (j ≤ n)) → sum_to (λ j. total j s) n ≡ lengths s
unfolding total lengths
sum_total n s h =
    let c : (x : ℕ) → x < 4 → sum_to (λ j. times j (chain x s)) n ≡ length (chain x s) = λ x hx. sum_chain n (chain x s) (h x hx) in
    let p : _ = sum_add (λ j. times j s.audit) (λ j. times j s.free) (λ j. times j s.audit + times j s.free) n (λ j. refl) in
    let q : _ = sum_add (λ j. times j s.history) (λ j. times j s.audit + times j s.free) (λ j. times j s.history + (times j s.audit + times j s.free)) n (λ j. refl) in
    let r : _ = sum_add (λ j. times j s.active) (λ j. times j s.history + (times j s.audit + times j s.free)) (λ j. total j s) n (λ j. refl) in
    omega (arith, c 0 (omega arith), c 1 (omega arith), c 2 (omega arith), c 3 (omega arith))

-- ones
pub sum_ones : (f : ℕ → ℕ) (n : ℕ) → ((j : ℕ) → 1 ≤ j → j ≤ n → f j ≡ 1) → sum_to f n ≡ n
unfolding sum_to
sum_ones f zero h = refl
sum_ones f (suc n) h = omega (arith, h (suc n) (omega arith) (omega arith), sum_ones f n (λ j u v. h j u (omega arith)))
