-- A run goes on behind eight bytes of ASCII, or behind a character.
use mathlib.Core.Path.{◌≡◌, refl, sym, ap, ◌∙◌, subst}
use mathlib.Core.Bool.{Bool, true, false, cond}
use mathlib.Core.List.{List, [], ◌∷◌}
use Prim.Native.Nat.{ℕ, zero, suc, ◌≤◌, ◌<◌}
use native.Mathlib.Omega.{arith}
use lib.Dec.{T, leb, leb→le, eqb-suc-zero}
use lib.ListN.{length, take, drop, take-append-drop}
use Rattle.octets.specs.Bytes.{Bytes}
use Rattle.octets.specs.BoolLaws.{true_holds, both_left, both_right}
use Rattle.definition.specs.Utf8.{Row, rows, fits, width_in, character, rows_from, utf8}
use Rattle.definition.proofs.Laws.Text.Utf8.{fits_le, utf8_next, utf8_stuck, utf8_append}
use Rattle.std.specs.Prelude.{Some, None, ◌==◌}
use Rattle.utf8.specs.Meaning.{plain, starts_plain, width_of, ahead}
use Rattle.utf8.specs.PlainLaws.{plain_utf8}

-- ---- what stands at the front of s

width_le : (q : List Row) (s : Bytes) → width_in q s ≤ length s
unfolding width_in
width_le [] s = omega arith
width_le (r ∷ q) s = go (fits r s) refl (width_le q s)
  where
    go : (x : Bool) → fits r s ≡ x → width_in q s ≤ length s → cond x (length r) (width_in q s) ≤ length s
    go true e ih = fits_le r s (true_holds _ e)
    go false e ih = ih

-- n bytes at the front of s are whole characters: s is UTF-8 where what stands behind them is
pub record Passes (n : ℕ) (s : Bytes) : Type 0 where
  pub some : 0 < n
  pub within : n ≤ length s
  pub goes_on : utf8 (drop n s) ≡ utf8 s

passes_plain : (s : Bytes) → T (starts_plain s) → Passes 8 s
unfolding starts_plain
passes_plain s t =
    let l = both_left (leb 8 (length s)) (plain (take 8 s)) t in
    let p = both_right (leb 8 (length s)) (plain (take 8 s)) t in
    record { some = omega arith; within = leb→le 8 (length s) l; goes_on = sym (utf8_append (take 8 s) (drop 8 s) (plain_utf8 (take 8 s) p)) ∙ ap utf8 (take-append-drop 8 s) }

passes_character : (n m : ℕ) (s : Bytes) → m ≡ character s → Some n ≡ width_of m → Passes n s
unfolding character width_in fits
passes_character n zero s e k = absurd cc
passes_character n (suc m) [] e k = absurd (omega arith)
passes_character n (suc m) (b ∷ s) e k =
    let z : n ≡ suc m = cc in
    subst (λ (x : ℕ). Passes x (b ∷ s)) (sym z)
    (record { some = omega arith; within = omega (arith, e, width_le rows (b ∷ s)); goes_on = sym (utf8_next b s m (sym e)) })

pub passes_ahead : (n : ℕ) (s : Bytes) → Some n ≡ ahead s → Passes n s
unfolding ahead
passes_ahead n s e = go (starts_plain s) refl e
  where
    go : (x : Bool) → starts_plain s ≡ x → Some n ≡ cond x (Some 8) (width_of (character s)) → Passes n s
    go true p k =
        let z : n ≡ 8 = cc in
        subst (λ (m : ℕ). Passes m s) (sym z) (passes_plain s (true_holds _ p))
    go false p k = passes_character n (character s) s refl k

stuck_character : (m : ℕ) → None ≡ width_of m → m ≡ 0
stuck_character zero e = refl
stuck_character (suc m) e = absurd cc

-- where nothing at the front of s is whole, s is UTF-8 only if it is empty
pub stuck_ahead : (s : Bytes) → None ≡ ahead s → (length s == 0) ≡ utf8 s
unfolding ahead utf8 rows_from
stuck_ahead [] e = refl
stuck_ahead (b ∷ s) e = go (starts_plain (b ∷ s)) e
  where
    go : (x : Bool) → None ≡ cond x (Some 8) (width_of (character (b ∷ s))) → (suc (length s) == 0) ≡ utf8 (b ∷ s)
    go true k = absurd cc
    go false k = eqb-suc-zero (length s) ∙ sym (utf8_stuck b s (stuck_character _ k))
