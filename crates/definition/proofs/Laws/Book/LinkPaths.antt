-- Records that are reached by links: a way that ends in 0 passes no record twice, and two ways that meet end in one record. For the check
-- (CheckSound).
use Rattle.std.specs.Prelude.{◌≡◌, ◌∷◌, length}
use Rattle.std.proofs.Math.Path.{refl, subst}
use Rattle.std.proofs.Common.{sym, ap, ◌∙◌}
use Prim.Native.Nat.{ℕ, zero, suc, ◌*◌, ◌≤◌, ◌<◌}
use native.Mathlib.Omega.{arith}
use Rattle.std.proofs.Math.Decide.{ℕ_discrete}
use Rattle.octets.specs.Bytes.{Bytes, at32}
use Rattle.definition.specs.Book.{record_of, walk}
use Rattle.definition.specs.Clauses.LegalBook.{last_of}
use Rattle.definition.specs.Chain.{times}
use Rattle.definition.proofs.Laws.Book.Occurrences.{last_on_lem, times_hit, times_miss, times_nil, last_later}
use Rattle.definition.specs.Clauses.Check.{Leads}

pub length_walk : (b : Bytes) (n i : ℕ) → length (walk b n i) ≡ n
unfolding walk
length_walk b zero i = refl
length_walk b (suc n) i = ap suc (length_walk b n (at32 b (1536 * i)))

module _ (b : Bytes) (m : ℕ) where
  -- a way to 0 from i has one length
  leads_one : (n k i : ℕ) → Leads b m n i → Leads b m k i → n ≡ k
  leads_one zero zero i p q = refl
  leads_one zero (suc k) i p q = absurd (omega (arith, q.0))
  leads_one (suc n) zero i p q = absurd (omega (arith, p.0))
  leads_one (suc n) (suc k) i p q = ap suc (leads_one n k (at32 b (1536 * i)) p.2 q.2)

  -- the way from j on, a record of the way from i
  record From (n i j : ℕ) : Type 0 where
    k : ℕ
    short : k < n
    leads : Leads b m (suc k) j
    last : last_of (walk b n i) ≡ last_of (walk b (suc k) j)

  from : (n i j : ℕ) → Leads b m n i → 1 ≤ times j (walk b n i) → From n i j
  unfolding walk
  from zero i j p h = absurd (omega (arith, times_nil Bytes j))
  from (suc n) i j p h =
      elim (ℕ_discrete i j) [
        | yes q ↦ subst (λ (z : ℕ). From (suc n) i z) q (record { k = n; short = omega arith; leads = p; last = refl })
        | no q ↦ go n (from n (at32 b (1536 * i)) j p.2 (rw (times_miss (record_of b i) (walk b n (at32 b (1536 * i))) j q) at h))
      ]
    where
      go : (n' : ℕ) → From n' (at32 b (1536 * i)) j → From (suc n') i j
      go zero f = absurd (omega (arith, f.short))
      go (suc n') f = record { k = f.k; short = omega (arith, f.short); leads = f.leads; last = last_later _ _ _ ∙ f.last }

  pub leads_once : (n i j : ℕ) → Leads b m n i → times j (walk b n i) ≤ 1
  unfolding walk
  leads_once zero i j p = omega (arith, times_nil Bytes j)
  leads_once (suc n) i j p =
      let r = at32 b (1536 * i) in
      elim (ℕ_discrete i j) [
        | yes q ↦ rw (times_hit (record_of b i) (walk b n r) j q)
            (elim (ℕ_discrete (times j (walk b n r)) 0) [
              | yes z ↦ omega arith
              | no z ↦
                  let f = from n r j p.2 (omega arith) in
                  absurd (omega (arith, f.short, leads_one (suc n) (suc f.k) j (subst (λ (t : ℕ). Leads b m (suc n) t) q p) f.leads))
            ])
        | no q ↦ rw (times_miss (record_of b i) (walk b n r) j q) (leads_once n r j p.2)
      ]

  -- every record of a way is one of 1 .. m
  pub leads_in_lem : (n i j : ℕ) → Leads b m n i → 1 ≤ times j (walk b n i) → (1 ≤ j) × (j ≤ m)
  leads_in_lem n i j p h = let f = from n i j p h in (f.leads.0, f.leads.1)

  -- two ways that meet end in one record
  pub leads_meet : (n i k h j : ℕ) → Leads b m n i → Leads b m k h → 1 ≤ times j (walk b n i) → 1 ≤ times j (walk b k h) → last_of (walk b n i) ≡ last_of (walk b k h)
  leads_meet n i k h j p q u v =
      let f = from n i j p u in
      let g = from k h j q v in
      f.last ∙ ap (λ (t : ℕ). last_of (walk b t j)) (leads_one (suc f.k) (suc g.k) j f.leads g.leads) ∙ sym g.last

  -- the last record of a way, where it has one, is not 0
  pub leads_last : (n i j : ℕ) → Leads b m n i → 1 ≤ times j (walk b n i) → 1 ≤ last_of (walk b n i)
  unfolding walk
  leads_last zero i j p h = absurd (omega (arith, times_nil Bytes j))
  leads_last (suc n) i j p h =
      let r = walk b n (at32 b (1536 * i)) in
      (leads_in_lem (suc n) i (last_of (record_of b i ∷ r)) p (last_on_lem (record_of b i) r)).0
