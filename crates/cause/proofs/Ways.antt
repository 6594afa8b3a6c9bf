-- What the cause is on each way out of the code.
use mathlib.Core.Path.{◌≡◌, refl, sym, ap, ◌∙◌, subst}
use mathlib.Core.Bool.{Bool, true, false}
use mathlib.Core.List.{[], ◌∷◌}
use Prim.Native.Nat.{ℕ, ◌+◌, ◌-◌, ◌<◌}
use native.Mathlib.Nat.{add-sub_cancel_left}
use lib.ListN.{length, get_or, take, drop}
use lib.Seq.{drop-drop}
use Rattle.octets.specs.Bytes.{Bytes, begins}
use Rattle.octets.specs.PartLaws.{part_rest}
use Rattle.definition.specs.White.{start_from, end_from, trim}
use Rattle.definition.specs.Cause.{names, one_of, cause_of, other, dotted}
use Rattle.cause.specs.Meaning.{named, cause_value}
use Rattle.std.specs.Prelude.{Option, Some, None, MatchOption, nat_eq}
use Rattle.std.specs.Bool.{then_some}
use lib.Pointwise.{pointwise}
use Rattle.cause.specs.declared.Cause.TheVariants.{Name, Other}
use Rattle.definition.specs.Cause.{stored}
use Rattle.definition.proofs.Laws.Text.Cause.{not_stored, other_stored}
use denote.Ref.{Bor}
use Rattle.cause.proofs.Places.{name_one}
use Rattle.cause.proofs.Spaces.{eqb_swap}

-- what is known of the place among the names, for the variant that a match found
pub found : (s : Bytes) {r q : Option ℕ} → named names s r → r ≡ q → named names s q
found s h e = subst (named names s) e h

pub name_yes : (s : Bytes) (k : ℕ) → k < 21 → get_or names k [] ≡ s → cause_value s (Some (Name k)) ≡ cause_of s
unfolding cause_of cause_value
name_yes s k h e = rw (name_one s k h e, e)

-- whether s begins with the mark, compared byte by byte
pub marked : (p s : Bytes) → pointwise nat_eq (take (length p) s) p ≡ begins p s
unfolding begins
marked [] s = refl
marked (a ∷ p) [] = refl
marked (a ∷ p) (b ∷ s) = rw (eqb_swap b a, marked p s)

module _ (s : Bytes) (none_of : one_of names s ≡ false) where
  pub not_other : begins other s ≡ false → cause_value s None ≡ cause_of s
  unfolding cause_of cause_value
  not_other e = rw (none_of, e)

  -- m and n are what `trim_start` and `trim_end` say of the part t behind the mark
  module _ (t : Bytes) (m n : ℕ) (is : begins other s ≡ true) (behind : t ≡ drop 6 s)
      (p : start_from 0 t ≡ drop m t)
      (q : end_from 0 (take (length t - m) (drop m t)) ≡ take n (take (length t - m) (drop m t))) where
    trimmed : trim (drop 6 s) ≡ take n (drop (6 + m) s)
    unfolding trim
    trimmed =
        ap (λ (x : Bytes). end_from 0 (start_from 0 x)) (sym behind)
        ∙ ap (end_from 0) p
        ∙ (rw part_rest at q)
        ∙ ap (λ (x : Bytes). take n (drop m x)) behind
        ∙ ap (take n) (drop-drop m 6 s)

    part : take (m + n - m) (drop m t) ≡ take n (drop (6 + m) s)
    part = rw add-sub_cancel_left (ap (λ (x : Bytes). take n (drop m x)) behind ∙ ap (take n) (drop-drop m 6 s))

    pub other_is : (r : Bool) → r ≡ dotted (take (m + n - m) (drop m t)) → cause_value s (then_some r (Other (6 + m) n)) ≡ cause_of s
    unfolding cause_of cause_value
    other_is true e = let f = rw part at e in rw (none_of, is, trimmed, ← f)
    other_is false e = let f = rw part at e in rw (none_of, is, trimmed, ← f)

-- what is stored behind the mark
pub stored_behind : (s : Bytes) (o : Option (Bor Bytes)) (r : Bool) → one_of names s ≡ false
    → MatchOption o (begins other s ≡ false) (λ t. (begins other s ≡ true) × (t.now ≡ drop 6 s) × (length t.now + 6 ≡ length s))
    → MatchOption o (r ≡ false) (λ t. r ≡ dotted t.now) → r ≡ stored s
stored_behind s None r n e d = d ∙ sym (not_stored s n e)
stored_behind s (Some t) r n e d = d ∙ ap dotted e.1 ∙ sym (other_stored s n e.0)
