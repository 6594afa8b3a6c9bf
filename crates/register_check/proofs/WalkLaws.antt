-- A walk by links that tests each record: what holds at each turn.
use Rattle.std.specs.Prelude.{◌≡◌, refl, eqb, Bool, true, false, ◌&&◌, T, length}
use Rattle.std.proofs.Math.Path.{sym, ap}
use Rattle.std.proofs.Common.{◌∙◌, subst}
use Rattle.std.proofs.lemmas.Bool.{eqb-true, eqb-false}
use Prim.Native.Nat.{ℕ, suc, ◌+◌, ◌-◌, ◌*◌, ◌≤◌, ◌<◌}
use native.Mathlib.Omega.{arith}
use Rattle.std.specs.Bool.{then_some}
use Rattle.octets.specs.Bytes.{Bytes, same, zeros, blank, at32}
use Rattle.definition.specs.Book.{Record, payload_width, record_of, walk, every}
use Rattle.definition.proofs.Laws.Book.LinkLoops.{Went, went_start, went_on, went_end, went_stray}
use Rattle.definition.specs.Clauses.LegalBook.{last_of}
use Rattle.definition.specs.Clauses.Check.{Leads}
use Rattle.register_check.specs.Meaning.{holds, passes, Walks}
use Rattle.register.specs.declared.Chain.{Chain}
use Rattle.register.specs.declared.Chain.TheVariants.{Free}

-- ---- one payload

-- the answer of a chain's own test
pub of_chain : {r : Bool} {x : Chain} (y : Chain) (p : Bytes) → x ≡ y → r ≡ holds y p → r ≡ holds x p
of_chain y p e h = h ∙ ap (λ (z : Chain). holds z p) (sym e)

pub blank_payload : (p : Bytes) → length p ≡ payload_width → blank p ≡ holds Free p
unfolding blank
blank_payload p e = ap (λ (n : ℕ). same (zeros n) p) e

-- ---- a walk

-- after k of n records, which passed, the way is at `at`, and the record before it is q: the rest decides
pub record Tested (t : Record → Bool) (b : Bytes) (m n i at q k : ℕ) : Type 0 where
  pub went : Went b m n i at q k
  pub rest : every t (walk b (n - k) at) ≡ every t (walk b n i)

module _ (t : Record → Bool) (b : Bytes) (m n i : ℕ) where
  pub tested_start : Tested t b m n i i 0 0
  tested_start =
      let z : n - 0 ≡ n = omega arith in
      record { went = went_start b m n i; rest = ap (λ (r : ℕ). every t (walk b r i)) z }

  module _ (at q k : ℕ) (w : Tested t b m n i at q k) where
    -- the record that the way is at, and the rest
    here : k < n → t (record_of b at) && every t (walk b (n - (k + 1)) (at32 b (1536 * at))) ≡ every t (walk b n i)
    unfolding walk every
    here h =
        let e : suc (n - (k + 1)) ≡ n - k = omega arith in
        ap (λ (r : ℕ). every t (walk b r at)) e ∙ w.rest

    pub tested_on :
        k < n → (at ≡ 0 → ⊥) → at ≤ m → t (record_of b at) ≡ true → (r : ℕ) → r ≡ at32 b (1536 * at) → Tested t b m n i r at (k + 1)
    tested_on h nz l p r e =
        record {
          went = went_on b m n i at q k w.went h nz l r e;
          rest = ap (λ (r' : ℕ). every t (walk b (n - (k + 1)) r')) e
              ∙ ap (λ (x : Bool). x && every t (walk b (n - (k + 1)) (at32 b (1536 * at)))) (sym p) ∙ here h;
        }

    pub tested_not : k < n → t (record_of b at) ≡ false → every t (walk b n i) ≡ true → ⊥
    tested_not h p e = subst (λ (x : Bool). T x) (sym e ∙ sym (here h) ∙ ap (λ (x : Bool). x && every t (walk b (n - (k + 1)) (at32 b (1536 * at)))) p) tt

    tested_end : n ≤ k → at ≡ 0 → Leads b m n i × (every t (walk b n i) ≡ true) × (q ≡ last_of (walk b n i))
    unfolding walk every
    tested_end h z =
        let e : 0 ≡ n - k = omega arith in
        let l = went_end b m n i at q k w.went h z in
        (l.0, sym w.rest ∙ ap (λ (r : ℕ). every t (walk b r at)) (sym e), l.1)

-- after all its records the way has ended, or strays
pub tested_gives :
    (x : Chain) (b : Bytes) (m n i at q k : ℕ) → Tested (passes x) b m n i at q k → n ≤ k → Walks (then_some (eqb at 0) q) x b m n i
tested_gives x b m n i at q k w h = go (eqb at 0) refl
  where
    go : (y : Bool) → eqb at 0 ≡ y → Walks (then_some y q) x b m n i
    go true e = tested_end (passes x) b m n i at q k w h (eqb-true at 0 e)
    go false e = λ p s. went_stray b m n i at q k w.went h (eqb-false at 0 e) p
