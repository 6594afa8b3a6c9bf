-- Causes and their stored form: it is one, is no longer than what was sent, and is UTF-8. For what the parser keeps, and for `cause`.
use Rattle.std.specs.Prelude.{◌≡◌, refl, Bool, true, false, cond, ◌&&◌, not, ◌++◌, ℕ, ◌≤◌, T, length, drop}
use Rattle.std.proofs.Common.{sym, ap, ◌∙◌, subst, arith, length-drop}
use Rattle.std.proofs.Math.Option.{none, some}
use Rattle.std.proofs.Math.Seq.{drop-append_seam}
use Rattle.octets.specs.Bytes.{Bytes, begins}
use Rattle.octets.specs.BoolLaws.{both_left, both_right, holds, true_holds, same_tests}
use Rattle.octets.specs.SameLaws.{same_refl, same→eq, eq→same}
use Rattle.definition.specs.Utf8.{fits, width_in, character, rows_from, utf8}
use Rattle.definition.proofs.Laws.Text.Utf8.{utf8_append}
use Rattle.definition.specs.White.{trim, has_space}
use Rattle.definition.proofs.Laws.Text.White.{begins_split, begins_le, trim_none}
use Rattle.definition.proofs.Laws.Text.Trim.{trim_le, trim_utf8}
use Rattle.definition.specs.Cause.{names, one_of, segments, has_dot, all_full, dotted, other, other_of, cause_of, same_as, stored}

-- ---- what is stored

trim_dotted : (t : Bytes) → T (dotted t) → trim t ≡ t
unfolding dotted
trim_dotted t h =
    trim_none t (go (has_space t) (both_left (not (has_space t)) (all_full (segments t)) (both_right (has_dot t) (not (has_space t) && all_full (segments t)) h)))
  where
    go : (x : Bool) → T (not x) → x ≡ false
    go true u = absurd u
    go false u = refl

pub stored_name : (s : Bytes) → one_of names s ≡ true → stored s ≡ true
unfolding stored cause_of
stored_name s e = rw e (same_refl s)

module _ (s : Bytes) (none_of : one_of names s ≡ false) where
  pub not_stored : begins other s ≡ false → stored s ≡ false
  unfolding stored cause_of
  not_stored e = rw (none_of, e)

  when_other : begins other s ≡ true → stored s ≡ same_as s (other_of (trim (drop 6 s)))
  unfolding stored cause_of
  when_other e = rw (none_of, e)

  from_dotted : (u : Bytes) → T (same_as s (other_of u)) → (T (dotted u)) × (other ++ u ≡ s)
  from_dotted u h = go (dotted u) refl h
    where
      go : (x : Bool) → dotted u ≡ x → T (same_as s (cond x (some (other ++ u)) none)) → (T (dotted u)) × (other ++ u ≡ s)
      go true e k = (true_holds (dotted u) e, same→eq (other ++ u) s k)
      go false e k = absurd k

  pub other_stored : begins other s ≡ true → stored s ≡ dotted (drop 6 s)
  other_stored e =
      let t = drop 6 s in
      let sp : s ≡ other ++ t = begins_split other s (true_holds _ e) in
      when_other e
      ∙ same_tests (same_as s (other_of (trim t))) (dotted t)
      (λ k.
      let r = from_dotted (trim t) k in
      let q : trim t ≡ t = sym (drop-append_seam other (trim t)) ∙ ap (drop 6) r.1 in
      subst (λ (x : Bytes). T (dotted x)) q r.0)
      (λ d. true_holds (same_as s (other_of (trim t))) (rw (trim_dotted t d, holds (dotted t) d) (eq→same (other ++ t) s (sym sp))))

-- ---- what a cause is: one of the names, or `other:` and a dotted name

by_cause : (P : Bytes → Type 0) (t c : Bytes) → cause_of t ≡ some c
    → (one_of names t ≡ true → P t) → (T (begins other t) → T (dotted (trim (drop 6 t))) → P (other ++ trim (drop 6 t))) → P c
unfolding cause_of
by_cause P t c e name dots = go (one_of names t) refl e
  where
    u : Bytes
    u = trim (drop 6 t)

    dot : (x : Bool) → dotted u ≡ x → T (begins other t) → cond x (some (other ++ u)) none ≡ some c → P c
    dot true d b q = let h : other ++ u ≡ c = cc in subst P h (dots b (true_holds _ d))
    dot false d b q = let z : ◌≡◌ {A = ℕ} 0 1 = cc in absurd (omega arith)

    pre : (x : Bool) → begins other t ≡ x → cond x (other_of u) none ≡ some c → P c
    pre true b q = dot (dotted u) refl (true_holds _ b) q
    pre false b q = let z : ◌≡◌ {A = ℕ} 0 1 = cc in absurd (omega arith)

    go : (x : Bool) → one_of names t ≡ x → cond x (some t) (cond (begins other t) (other_of u) none) ≡ some c → P c
    go true n q = let h : t ≡ c = cc in subst P h (name n)
    go false n q = pre (begins other t) refl q

stored_dotted : (u : Bytes) → T (dotted u) → stored (other ++ u) ≡ true
unfolding begins
stored_dotted u d = go (one_of names (other ++ u)) refl
  where
    go : (x : Bool) → one_of names (other ++ u) ≡ x → stored (other ++ u) ≡ true
    go true n = stored_name (other ++ u) n
    go false n = other_stored (other ++ u) n refl ∙ holds (dotted u) d

-- the stored form of a cause is in its stored form
pub cause_stored : (t c : Bytes) → cause_of t ≡ some c → stored c ≡ true
cause_stored t c e =
    by_cause (λ (x : Bytes). stored x ≡ true) t c e (stored_name t) (λ b d. stored_dotted (trim (drop 6 t)) d)

-- it is no longer than the cause
pub cause_length : (t c : Bytes) → cause_of t ≡ some c → length c ≤ length t
cause_length t c e =
    by_cause (λ (x : Bytes). length x ≤ length t) t c e (λ n. omega arith)
    (λ b d. omega (arith, trim_le (drop 6 t), length-drop 6 t, begins_le other t b))

-- it is UTF-8 where the cause is
pub cause_utf8 : (t c : Bytes) → cause_of t ≡ some c → utf8 t ≡ true → utf8 c ≡ true
unfolding utf8 rows_from character width_in fits
cause_utf8 t c e h =
    by_cause (λ (x : Bytes). utf8 x ≡ true) t c e (λ n. h)
    (λ b d.
    let r : utf8 (drop 6 t) ≡ true = sym (utf8_append other (drop 6 t) refl) ∙ ap utf8 (sym (begins_split other t b)) ∙ h in
    utf8_append other (trim (drop 6 t)) refl ∙ trim_utf8 (drop 6 t) r)
