-- A loop that follows links of which it is not known whether they end: what holds at each turn.
use Rattle.std.specs.Prelude.{◌≡◌, ℕ, suc, ◌+◌, ◌-◌, ◌*◌, ◌≤◌, ◌<◌}
use Rattle.std.proofs.Common.{sym, ◌∙◌}
use Rattle.std.proofs.Math.Path.{ap, subst}
use native.Mathlib.Omega.{arith}
use Rattle.octets.specs.Bytes.{Bytes, at32}
use Rattle.definition.specs.Book.{walk}
use Rattle.definition.proofs.Laws.Book.Split.{last_from, last_from_zero}
use Rattle.definition.specs.Clauses.LegalBook.{last_of}
use Rattle.definition.specs.Clauses.Check.{Leads}

more : (n k : ℕ) → k < n → n - k ≡ suc (n - (k + 1))
more n k h = omega arith

none : (n k : ℕ) → n ≤ k → n - k ≡ 0
none n k h = omega arith

-- after k records the way is at `at`, and the record before it is q
pub record Went (b : Bytes) (m n i at q k : ℕ) : Type 0 where
  pub le : k ≤ n
  pub back : Leads b m (n - k) at → Leads b m n i
  pub forth : Leads b m n i → Leads b m (n - k) at
  pub ends : last_from q (walk b (n - k) at) ≡ last_from 0 (walk b n i)

module _ (b : Bytes) (m n i : ℕ) where
  pub went_start : Went b m n i i 0 0
  went_start =
      let z : n - 0 ≡ n = omega arith in
      record {
        le = omega arith;
        back = λ h. subst (λ (r : ℕ). Leads b m r i) z h;
        forth = λ h. subst (λ (r : ℕ). Leads b m r i) (sym z) h;
        ends = ap (λ (r : ℕ). last_from 0 (walk b r i)) z;
      }

  module _ (at q k : ℕ) (w : Went b m n i at q k) where
    -- the way goes on
    on : k < n → Leads b m n i → Leads b m (suc (n - (k + 1))) at
    on h p = subst (λ (r : ℕ). Leads b m r at) (more n k h) (w.forth p)

    pub went_zero : k < n → at ≡ 0 → Leads b m n i → ⊥
    went_zero h z p = omega (arith, (on h p).0)

    pub went_past : k < n → m < at → Leads b m n i → ⊥
    went_past h z p = omega (arith, (on h p).1)

    pub went_on : k < n → (at ≡ 0 → ⊥) → at ≤ m → (r : ℕ) → r ≡ at32 b (1536 * at) → Went b m n i r at (k + 1)
    unfolding last_from walk
    went_on h nz l r e =
        record {
          le = omega arith;
          back = λ p. w.back (subst (λ (t : ℕ). Leads b m t at) (sym (more n k h)) (one, l, subst (λ (t : ℕ). Leads b m (n - (k + 1)) t) e p));
          forth = λ p. subst (λ (t : ℕ). Leads b m (n - (k + 1)) t) (sym e) (on h p).2;
          ends =
              ap (λ (t : ℕ). last_from at (walk b (n - (k + 1)) t)) e
              ∙ ap (λ (t : ℕ). last_from q (walk b t at)) (sym (more n k h))
              ∙ w.ends;
        }
      where
        one : 1 ≤ at
        one = omega arith

    pub went_end : n ≤ k → at ≡ 0 → Leads b m n i × (q ≡ last_of (walk b n i))
    unfolding last_from walk
    went_end h z = (
      w.back (subst (λ (r : ℕ). Leads b m r at) (sym (none n k h)) z),
      ap (λ (r : ℕ). last_from q (walk b r at)) (sym (none n k h)) ∙ w.ends ∙ last_from_zero (walk b n i),
    )

    pub went_stray : n ≤ k → (at ≡ 0 → ⊥) → Leads b m n i → ⊥
    went_stray h nz p = nz (subst (λ (r : ℕ). Leads b m r at) (none n k h) (w.forth p))
