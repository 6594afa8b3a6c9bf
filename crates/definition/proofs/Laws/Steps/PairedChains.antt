-- Two chains with a relation at each place: what is found at the same places, changed, taken off and added. For stations that are alike.
use Rattle.std.specs.Prelude.{ℕ, suc, ◌≤◌, ◌≡◌, Bool, cond, length}
use Rattle.std.proofs.Math.Path.{refl}
use Rattle.std.proofs.Common.{ap, arith}
use mathlib.Core.List.{List, [], ◌∷◌, ◌++◌}
use Rattle.std.proofs.Math.Bool.{true, false}
use Rattle.std.proofs.Math.Option.{Option, none, some}
use Rattle.std.proofs.Math.Decide.{dec_lt}
use borrow.Author.Tests.{eq-eqb, ne_eqb}
use Rattle.definition.specs.Chain.{Entry, entry, those, first, without, replaced, times, up_from}
use Rattle.definition.specs.Station.{Station}
use Rattle.definition.specs.Clauses.LegalFields.{Each}
use Rattle.definition.specs.Clauses.LegalStation.{records, LegalChains, times_in}
use Rattle.definition.proofs.Laws.Book.Occurrences.{on_chain, times_hit, times_cons, up_from_in, up_from_range}
use Rattle.definition.specs.Twins.{AtEach}

-- ---- no index is twice on a chain of a legal station

abbrev pub Distinct : {A : Type 0} → List (Entry A) → Type 0
Distinct c = (i : ℕ) → times i c ≤ 1

up_from_once : (i n : ℕ) → times_in i (up_from 1 n) ≤ 1
up_from_once i n = elim (dec_lt 0 (times_in i (up_from 1 n))) [
  | yes p ↦ (let r = up_from_range i n p in omega (arith, up_from_in i 1 n r.0 (omega arith)))
  | no p ↦ omega arith
]

pub distinct : (s : Station) → LegalChains s → Distinct s.active
distinct s l i = omega (arith, l.once i, up_from_once i (records s))

-- ---- records at the same places of two chains

module _ {A : Type 0} where
  -- d from c and d' from c', at the same places, in order
  pub data Picked : List (Entry A) → List (Entry A) → List (Entry A) → List (Entry A) → Type 0 where
    nothing : {c c' : List (Entry A)} → Picked [] [] c c'
    picks : {e e' : Entry A} {d d' c c' : List (Entry A)} → Picked d d' c c' → Picked (e ∷ d) (e' ∷ d') (e ∷ c) (e' ∷ c')
    passes : {e e' : Entry A} {d d' c c' : List (Entry A)} → Picked d d' c c' → Picked d d' (e ∷ c) (e' ∷ c')

  pub picked_left : {e e' : Entry A} {d d' c c' : List (Entry A)} → Picked (e ∷ d) (e' ∷ d') c c' → 1 ≤ times e.index c
  picked_left {e} {d = d} {c = []} p = elim p [ ]
  picked_left {e} {c = x ∷ c} (picks p) = on_chain e c
  picked_left {e} {c = x ∷ c} (passes p) = omega (arith, picked_left p, times_cons x c e.index)

  pub picked_right : {e e' : Entry A} {d d' c c' : List (Entry A)} → Picked (e ∷ d) (e' ∷ d') c c' → 1 ≤ times e'.index c'
  picked_right {e' = e} {d = d} {c = c} {c' = []} p = elim p [ ]
  picked_right {e' = e} {c' = x ∷ c} (picks p) = on_chain e c
  picked_right {e' = e} {c' = x ∷ c} (passes p) = omega (arith, picked_right p, times_cons x c e.index)

  pub picked_holds : (P : A → Type 0) {e e' : Entry A} {d d' c c' : List (Entry A)} → Picked (e ∷ d) (e' ∷ d') c c' → Each P c → Each P c' → P e.content × P e'.content
  picked_holds P (picks p) h h' = (h.0, h'.0)
  picked_holds P (passes p) h h' = picked_holds P p h.1 h'.1

  pub picked_length : {d d' c c' : List (Entry A)} → Picked d d' c c' → length d ≡ length d'
  picked_length nothing = refl
  picked_length (picks p) = ap suc (picked_length p)
  picked_length (passes p) = picked_length p

  tail : (e : Entry A) (c : List (Entry A)) → Distinct (e ∷ c) → Distinct c
  tail e c h i = omega (arith, h i, times_cons e c i)

  apart : (x : Entry A) (i : ℕ) (c : List (Entry A)) → Distinct (x ∷ c) → 1 ≤ times i c → x.index ≡ i → ⊥
  apart x i c h f p = omega (arith, h i, times_hit x c i p)

module _ {A : Type 0} (P : Entry A → Entry A → Type 0) where
  -- what a search finds on both chains
  pub data Search (c c' : List (Entry A)) : Option (Entry A) → Option (Entry A) → Type 0 where
    missed : Search c c' none none
    found : {e e' : Entry A} → P e e' → Picked (e ∷ []) (e' ∷ []) c c' → Search c c' (some e) (some e')

  further : {e e' : Entry A} {c c' : List (Entry A)} {o o' : Option (Entry A)} → Search c c' o o' → Search (e ∷ c) (e' ∷ c') o o'
  further missed = missed
  further (found h p) = found h (passes p)

  pub first_each : (t : A → Bool) → ((e e' : Entry A) → P e e' → t e.content ≡ t e'.content) → (c c' : List (Entry A)) → AtEach P c c' → Search c c' (first t c) (first t c')
  unfolding first
  first_each t b [] [] h = missed
  first_each t b [] (e ∷ c) h = absurd h
  first_each t b (e ∷ c) [] h = absurd h
  first_each t b (e ∷ c) (e' ∷ c') h = rw (← b e e' h.0) (go (t e.content) (first_each t b c c' h.1))
    where
      go : (x : Bool) → Search c c' (first t c) (first t c') → Search (e ∷ c) (e' ∷ c') (cond x (some e) (first t c)) (cond x (some e') (first t c'))
      go true p = found h.0 (picks nothing)
      go false p = further p

  pub those_each : (t : Entry A → Bool) → ((e e' : Entry A) → P e e' → t e ≡ t e') → (c c' : List (Entry A)) → AtEach P c c' → Picked (those t c) (those t c') c c'
  unfolding those
  those_each t b [] [] h = nothing
  those_each t b [] (e ∷ c) h = absurd h
  those_each t b (e ∷ c) [] h = absurd h
  those_each t b (e ∷ c) (e' ∷ c') h = rw (← b e e' h.0) (go (t e) (those_each t b c c' h.1))
    where
      go : (x : Bool) → Picked (those t c) (those t c') c c' → Picked (cond x (e ∷ those t c) (those t c)) (cond x (e' ∷ those t c') (those t c')) (e ∷ c) (e' ∷ c')
      go true p = picks p
      go false p = passes p

  pub picked_each : {d d' c c' : List (Entry A)} → Picked d d' c c' → AtEach P c c' → AtEach P d d'
  picked_each nothing h = tt
  picked_each (picks p) h = (h.0, picked_each p h.1)
  picked_each (passes p) h = picked_each p h.1

  pub length_each : (c c' : List (Entry A)) → AtEach P c c' → length c ≡ length c'
  length_each [] [] h = refl
  length_each [] (e ∷ c) h = absurd h
  length_each (e ∷ c) [] h = absurd h
  length_each (e ∷ c) (e' ∷ c') h = ap suc (length_each c c' h.1)

  pub last_each : {e e' : Entry A} (c c' : List (Entry A)) → AtEach P c c' → P e e' → AtEach P (c ++ (e ∷ [])) (c' ++ (e' ∷ []))
  last_each [] [] h p = (p, tt)
  last_each [] (x ∷ c) h p = absurd h
  last_each (x ∷ c) [] h p = absurd h
  last_each (x ∷ c) (x' ∷ c') h p = (h.0, last_each c c' h.1 p)

  pub without_each : {e e' : Entry A} {d d' c c' : List (Entry A)} → Picked (e ∷ d) (e' ∷ d') c c' → Distinct c → Distinct c' → AtEach P c c' →
      AtEach P (without e.index c) (without e'.index c') × Picked d d' (without e.index c) (without e'.index c')
  unfolding without
  without_each {e} {e'} (picks p) f g h = rw (eq-eqb e.index e.index refl, eq-eqb e'.index e'.index refl) (h.1, p)
  without_each {e} {e'} {c = x ∷ c} {c' = x' ∷ c'} (passes p) f g h =
      let r = without_each p (tail x c f) (tail x' c' g) h.1 in
      rw (ne_eqb x.index e.index (apart x e.index c f (picked_left p)), ne_eqb x'.index e'.index (apart x' e'.index c' g (picked_right p)))
      ((h.0, r.0), passes r.1)

  pub replaced_each : {e e' : Entry A} {d d' c c' : List (Entry A)} (a a' : A) → Picked (e ∷ d) (e' ∷ d') c c' → Distinct c → Distinct c' → AtEach P c c' →
      P (entry e.index a) (entry e'.index a') → AtEach P (replaced e.index a c) (replaced e'.index a' c') × Picked d d' (replaced e.index a c) (replaced e'.index a' c')
  unfolding replaced
  replaced_each {e} {e'} a a' (picks p) f g h q = rw (eq-eqb e.index e.index refl, eq-eqb e'.index e'.index refl) ((q, h.1), passes p)
  replaced_each {e} {e'} {c = x ∷ c} {c' = x' ∷ c'} a a' (passes p) f g h q =
      let r = replaced_each a a' p (tail x c f) (tail x' c' g) h.1 q in
      rw (ne_eqb x.index e.index (apart x e.index c f (picked_left p)), ne_eqb x'.index e'.index (apart x' e'.index c' g (picked_right p)))
      ((h.0, r.0), passes r.1)
