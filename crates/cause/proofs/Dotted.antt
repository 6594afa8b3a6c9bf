-- A dotted name, read from left to right.
use mathlib.Core.Path.{◌≡◌, refl, sym, ap, ◌∙◌, subst}
use mathlib.Core.Bool.{Bool, true, false, cond, ◌&&◌, ◌||◌, not}
use mathlib.Core.List.{List, [], ◌∷◌}
use Prim.Native.Nat.{ℕ, ◌+◌, ◌≤◌, ◌<◌}
use native.Mathlib.Numerals.{add-one}
use borrow.Author.Tests.{eqb-true, eq-eqb, ne_eqb}
use lib.Dec.{eqb}
use lib.ListN.{length, get_or, drop, drop_of_length-le}
use lib.Seq.{drop-cons}
use Rattle.octets.specs.Bytes.{Bytes, begins}
use Rattle.octets.specs.BoolLaws.{and_false}
use Rattle.definition.specs.White.{space, front_of, has_space}
use Rattle.definition.specs.Cause.{segments, onto, has_dot, full, all_full, dotted}

-- o: the segment has a byte; d: there was a dot
unfoldable pub scan : Bool → Bool → Bytes → Bool
scan o d [] = o && d
scan o d (b ∷ s) = cond (eqb b 46) (o && scan false true s) (cond (eqb (space (b ∷ s)) 0) (scan true d s) false)

-- the first segment may be empty where o holds
abbrev full_from : Bool → List Bytes → Bool
full_from o [] = true
full_from o (t ∷ ts) = (o || full t) && all_full ts

full_onto : (o : Bool) (b : ℕ) (ts : List Bytes) → full_from o (onto b ts) ≡ full_from true ts
unfolding all_full
full_onto true b [] = refl
full_onto false b [] = refl
full_onto true b (t ∷ ts) = refl
full_onto false b (t ∷ ts) = refl

full_all : (ts : List Bytes) → full_from false ts ≡ all_full ts
unfolding all_full
full_all [] = refl
full_all (t ∷ ts) = refl

abbrev meant : Bool → Bool → Bytes → Bool
meant o d s = (d || has_dot s) && (not (has_space s) && full_from o (segments s))

at_end : (o d : Bool) → o && d ≡ meant o d []
unfolding has_dot has_space segments all_full
at_end true true = refl
at_end true false = refl
at_end false true = refl
at_end false false = refl

at_dot : (o d : Bool) (s : Bytes) → o && meant false true s ≡ meant o d (46 ∷ s)
unfolding has_dot has_space segments space front_of begins
at_dot true true s = rw (full_all (segments s))
at_dot true false s = rw (full_all (segments s))
at_dot false true s = sym (and_false (not (has_space s)))
at_dot false false s = sym (and_false (not (has_space s)))

at_space : (o d : Bool) (b : ℕ) (s : Bytes) → eqb (space (b ∷ s)) 0 ≡ false → false ≡ meant o d (b ∷ s)
unfolding has_space
at_space o d b s e = rw e (sym (and_false (d || has_dot (b ∷ s))))

at_plain : (o d : Bool) (b : ℕ) (s : Bytes) → eqb b 46 ≡ false → eqb (space (b ∷ s)) 0 ≡ true → meant true d s ≡ meant o d (b ∷ s)
unfolding has_dot has_space segments
at_plain o d b s e f = rw (e, f, full_onto o b (segments s))

pub scan_is : (o d : Bool) (s : Bytes) → scan o d s ≡ meant o d s
unfolding scan
scan_is o d [] = at_end o d
scan_is o d (b ∷ s) = go (eqb b 46) refl (eqb (space (b ∷ s)) 0) refl (scan_is false true s) (scan_is true d s)
  where
    go : (x : Bool) → eqb b 46 ≡ x → (y : Bool) → eqb (space (b ∷ s)) 0 ≡ y → scan false true s ≡ meant false true s → scan true d s ≡ meant true d s
        → cond x (o && scan false true s) (cond y (scan true d s) false) ≡ meant o d (b ∷ s)
    go true e y f p q =
        ap (λ (v : Bool). o && v) p ∙ subst (λ (v : ℕ). o && meant false true s ≡ meant o d (v ∷ s)) (sym (eqb-true b 46 e)) (at_dot o d s)
    go false e true f p q = q ∙ at_plain o d b s e f
    go false e false f p q = at_space o d b s f

pub scan_dotted : (s : Bytes) → scan false false s ≡ dotted s
unfolding dotted
scan_dotted s = scan_is false false s ∙ ap (λ (v : Bool). has_dot s && (not (has_space s) && v)) (full_all (segments s))

module _ (s : Bytes) (i : ℕ) (o d : Bool) (h : i < length s) where
  pub scan_dot : get_or s i 0 ≡ 46 → scan o d (drop i s) ≡ o && scan false true (drop (i + 1) s)
  unfolding scan
  scan_dot e = rw (add-one, drop-cons s i 0, eq-eqb _ _ e)

  pub scan_plain : (get_or s i 0 ≡ 46 → ⊥) → space (drop i s) ≡ 0 → scan o d (drop i s) ≡ scan true d (drop (i + 1) s)
  unfolding scan
  scan_plain e f = let g = rw (drop-cons s i 0 h) at f in rw (add-one, drop-cons s i 0, ne_eqb _ _ e, eq-eqb _ _ g)

  pub scan_space : (get_or s i 0 ≡ 46 → ⊥) → (space (drop i s) ≡ 0 → ⊥) → scan o d (drop i s) ≡ false
  unfolding scan
  scan_space e f = let g = rw (drop-cons s i 0 h) at f in rw (drop-cons s i 0, ne_eqb _ _ e, ne_eqb _ _ g)

pub scan_end : (s : Bytes) (i : ℕ) (o d : Bool) → length s ≤ i → scan o d (drop i s) ≡ o && d
unfolding scan
scan_end s i o d h = rw (drop_of_length-le s h)
