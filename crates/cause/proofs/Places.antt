-- The search for a name among those of its length, and the names by their place.
use mathlib.Core.Path.{◌≡◌, refl, sym, ap, ◌∙◌, subst}
use mathlib.Core.Bool.{Bool, true, false, cond, ◌&&◌, ◌||◌}
use mathlib.Core.List.{List, [], ◌∷◌}
use Prim.Native.Nat.{ℕ, zero, suc, ◌+◌, ◌≤◌, ◌<◌}
use native.Mathlib.Omega.{arith}
use borrow.Author.Tests.{eq-eqb, ne_eqb}
use lib.Dec.{T, eqb}
use lib.ListN.{length, get_or, drop, length-drop}
use lib.Seq.{drop-cons}
use Rattle.octets.specs.Bytes.{Bytes, same, splice}
use Rattle.octets.specs.Put.{Put}
use Rattle.octets.specs.BoolLaws.{both_left, both_right, true_holds}
use Rattle.octets.specs.SameLaws.{same→eq, same_refl}
use Rattle.definition.specs.Cause.{names, one_of}
use Rattle.definition.specs.Numbers.{among}
use Rattle.std.specs.Prelude.{Option, Some, None, is_some}
use Rattle.std.specs.Option.{option_or}
use Rattle.std.specs.Bool.{then_some}
use Rattle.cause.specs.Meaning.{named, place_of}

-- ---- the texts of one length

-- the answer r, or else the place of s among those of the texts, numbered from k on, that have the length n
abbrev sized : ℕ → Bytes → Option ℕ → ℕ → List Bytes → Option ℕ
sized n s r k [] = r
sized n s r k (t ∷ ts) = sized n s (cond (eqb n (length t)) (option_or r (place_of s t k)) r) (suc k) ts

cond_same : (b : Bool) (r : Option ℕ) → cond b r r ≡ r
cond_same true r = refl
cond_same false r = refl

-- the lengths tell nothing more
same_sized : (s t : Bytes) (k : ℕ) (r : Option ℕ) → cond (eqb (length s) (length t)) (option_or r (place_of s t k)) r ≡ option_or r (place_of s t k)
same_sized s t k (Some j) = cond_same (eqb (length s) (length t)) (Some j)
same_sized s t k None = go (same t s) refl
  where
    go : (y : Bool) → same t s ≡ y → cond (eqb (length s) (length t)) (then_some y k) None ≡ then_some y k
    go true e = rw (eq-eqb (length s) (length t) (ap length (sym (same→eq t s (true_holds _ e)))))
    go false e = cond_same (eqb (length s) (length t)) None

-- what is known where the texts up to those left have been passed
abbrev Passed : List Bytes → Bytes → List Bytes → Option ℕ → Type 0
Passed all s left (Some k) = (k < length all) × (get_or all k [] ≡ s)
Passed all s left None = one_of all s ≡ one_of left s

passed : (all : List Bytes) (s t : Bytes) (left : List Bytes) (k : ℕ) → k < length all → get_or all k [] ≡ t
    → (r : Option ℕ) → Passed all s (t ∷ left) r → Passed all s left (option_or r (place_of s t k))
unfolding one_of
passed all s t left k h g (Some j) p = p
passed all s t left k h g None p = go (same t s) refl
  where
    go : (y : Bool) → same t s ≡ y → Passed all s left (then_some y k)
    go true e = (h, g ∙ same→eq t s (true_holds _ e))
    go false e = p ∙ rw e

all_passed : (all : List Bytes) (s : Bytes) (k : ℕ) (left : List Bytes) → drop k all ≡ left
    → (r : Option ℕ) → Passed all s left r → Passed all s [] (sized (length s) s r k left)
all_passed all s k [] e r p = p
all_passed all s k (t ∷ left) e r p =
    let h : k < length all = omega (arith, ap length e, length-drop k all) in
    let c = drop-cons all k [] h in
    let g : get_or all k [] ≡ t = cc in
    let d : drop (suc k) all ≡ left = cc in
    all_passed all s (suc k) left d (cond (eqb (length s) (length t)) (option_or r (place_of s t k)) r)
    (rw same_sized (passed all s t left k h g r p))

none_left : (all : List Bytes) (s : Bytes) (r : Option ℕ) → Passed all s [] r → named all s r
unfolding one_of
none_left all s (Some k) p = p
none_left all s None p = p

among_all : (all : List Bytes) (s : Bytes) {n : ℕ} {r : Option ℕ} → length s ≡ n → r ≡ sized n s None 0 all → named all s r
among_all all s {n} {r} h e =
    let f : r ≡ sized (length s) s None 0 all = rw h e in
    subst (named all s) (sym f) (none_left all s (sized (length s) s None 0 all) (all_passed all s 0 all refl None refl))

-- what is found among the names of the length of s
pub by_length : (s : Bytes) {n : ℕ} {r : Option ℕ} → length s ≡ n → r ≡ sized n s None 0 names → named names s r
by_length s h e = among_all names s h e

-- ---- the last arm of a match

-- n is none of ls
abbrev NoneOf : ℕ → List ℕ → Type 0
NoneOf n [] = Unit
NoneOf n (l ∷ ls) = NoneOf n ls × (n ≡ l → ⊥)

abbrev down : ℕ → List ℕ
down zero = []
down (suc n) = n ∷ down n

at_least : (n k : ℕ) → NoneOf k (down n) → n ≤ k
at_least zero k h = omega arith
at_least (suc n) k h = omega (arith, at_least n k h.0, h.1)

-- the arms before it took all places but the last
pub last_place : (n k : ℕ) → k < suc n → NoneOf k (down n) → k ≡ n
last_place n k l h = omega (arith, at_least n k h)

-- ---- no name has the length

not_among : (n : ℕ) (ls : List ℕ) → NoneOf n ls → T (among n ls) → ⊥
not_among n [] h t = t
not_among n (l ∷ ls) h t = not_among n ls h.0 (rw (ne_eqb n l h.1) at t)

-- the texts have their lengths among ls
abbrev lengths_in : List ℕ → List Bytes → Bool
lengths_in ls [] = true
lengths_in ls (t ∷ ts) = among (length t) ls && lengths_in ls ts

none_sized : (s : Bytes) (n : ℕ) (ls : List ℕ) → NoneOf n ls → (k : ℕ) (ts : List Bytes) → T (lengths_in ls ts) → sized n s None k ts ≡ None
none_sized s n ls h k [] i = refl
none_sized s n ls h k (t ∷ ts) i =
    let l : ℕ = length t in
    rw (ne_eqb n l (λ e. not_among n ls h (rw e (both_left (among l ls) (lengths_in ls ts) i))))
    (none_sized s n ls h (suc k) ts (both_right (among l ls) (lengths_in ls ts) i))

-- the lengths of names
abbrev lengths : List ℕ
lengths = 28 ∷ 26 ∷ 25 ∷ 24 ∷ 22 ∷ 21 ∷ 20 ∷ 19 ∷ 18 ∷ 16 ∷ 15 ∷ 12 ∷ 10 ∷ []

-- a string of another length
pub elsewhere : (s : Bytes) → NoneOf (length s) lengths → one_of names s ≡ false
elsewhere s h = among_all names s refl (sym (none_sized s (length s) lengths h 0 names tt))

-- ---- a string at a place

one_at : (ns : List Bytes) (k : ℕ) → k < length ns → one_of ns (get_or ns k []) ≡ true
unfolding one_of
one_at [] k h = absurd (omega arith)
one_at (n ∷ ns) zero h = rw (same_refl n)
one_at (n ∷ ns) (suc k) h = rw (one_at ns k (omega arith)) (or_true (same n (get_or ns k [])))
  where
    or_true : (x : Bool) → x || true ≡ true
    or_true true = refl
    or_true false = refl

-- a string that stands at a place is one of the names
pub name_one : (s : Bytes) (k : ℕ) → k < 21 → get_or names k [] ≡ s → one_of names s ≡ true
name_one s k h e = rw (sym e) (one_at names k h)

-- ---- the search with no place told

-- whether x holds, or s is one of the texts that have the length n
abbrev hits : ℕ → Bytes → Bool → List Bytes → Bool
hits n s x [] = x
hits n s x (t ∷ ts) = hits n s (cond (eqb n (length t)) (x || same t s) x) ts

hit : (b y : Bool) (k : ℕ) (r : Option ℕ) → cond b (is_some r || y) (is_some r) ≡ is_some (cond b (option_or r (then_some y k)) r)
hit false y k r = refl
hit true y k (Some j) = refl
hit true true k None = refl
hit true false k None = refl

hits_sized : (n : ℕ) (s : Bytes) (r : Option ℕ) (k : ℕ) (ts : List Bytes) → hits n s (is_some r) ts ≡ is_some (sized n s r k ts)
hits_sized n s r k [] = refl
hits_sized n s r k (t ∷ ts) =
    ap (λ (x : Bool). hits n s x ts) (hit (eqb n (length t)) (same t s) k r)
    ∙ hits_sized n s (cond (eqb n (length t)) (option_or r (place_of s t k)) r) (suc k) ts

named_one : (s : Bytes) (r : Option ℕ) → named names s r → is_some r ≡ one_of names s
named_one s (Some k) h = sym (name_one s k h.0 h.1)
named_one s None h = sym h

-- what is found among the names of the length of s
pub one_by_length : (s : Bytes) {n : ℕ} {x : Bool} → length s ≡ n → x ≡ hits n s false names → x ≡ one_of names s
one_by_length s {n} h e =
    e ∙ hits_sized n s None 0 names ∙ named_one s (sized n s None 0 names) (by_length s h refl)

-- ---- a name put

-- the name at n was put, and k is n
pub at_place : {k n at r : ℕ} {b c : Bytes} → k ≡ n → Put b at (get_or names n []) r c
    → (r ≡ at + length (get_or names k [])) × (c ≡ splice b at (get_or names k []))
at_place e p = rw e (p.next, p.bytes)
