-- UTF8-octets = *( UTF8-char ), said as the grammar does: a string is a run of n rows, in whichever way it is read, exactly if the definition counts n.
use Rattle.std.specs.Prelude.{◌≡◌, refl, ◌⊎◌, Bool, true, false, cond, ℕ, suc, T, length, take, drop}
use Rattle.std.proofs.Common.{sym, ap, ◌∙◌, subst, inl, inr, arith, take-append-drop}
use Rattle.std.proofs.Math.Option.{Option, none, some, some-ne-none}
use mathlib.Core.List.Memᴰ
use mathlib.Core.List.{List, [], ◌∷◌, ◌++◌, Memᴰ}
use Rattle.std.proofs.Math.Seq.{drop-append_seam}
use Rattle.octets.specs.Bytes.{Bytes}
use Rattle.octets.specs.BoolLaws.{holds, true_holds, both_left, both_right}
use Rattle.definition.specs.Utf8.{Range, Row, inside, rows, fits, character, one_more, rows_from}
use Rattle.definition.proofs.Laws.Text.Utf8.{by_suffix, rests, width_behind, by_first, lone, lone_rests, Front, stuck, starts, front, rows_next, rows_stuck}

-- a byte in each of the ranges
pub data Fill : Row → Bytes → Type 0 where
  filled : Fill [] []
  byte : {r : Range} {rs : Row} {b : ℕ} {s : Bytes} → T (inside r b) → Fill rs s → Fill (r ∷ rs) (b ∷ s)

-- no row, or the bytes of a row and then a run; n rows in all
pub data Run : ℕ → Bytes → Type 0 where
  end : Run 0 []
  char : {n : ℕ} {r : Row} {w s t : Bytes} → Memᴰ r rows → Fill r w → Run n s → t ≡ w ++ s → Run (suc n) t

-- ---- every run is counted

fill_fits : {rs : Row} {w : Bytes} (s : Bytes) → Fill rs w → fits rs (w ++ s) ≡ true
unfolding fits
fill_fits s filled = refl
fill_fits s (byte {r = r} {b = b} h f) = rw (holds (inside r b) h) (fill_fits s f)

fill_length : {rs : Row} {w : Bytes} → Fill rs w → length w ≡ length rs
fill_length filled = refl
fill_length (byte h f) = ap suc (fill_length f)

-- no row is empty
abbrev none_empty : List Row → Bool
none_empty [] = true
none_empty ([] ∷ q) = false
none_empty ((r ∷ rs) ∷ q) = none_empty q

none_empty_lem : (q : List Row) → T (none_empty q) → Memᴰ [] q → ⊥
none_empty_lem [] t m = Memᴰ.not-nil m
none_empty_lem ([] ∷ q) t m = t
none_empty_lem ((r ∷ rs) ∷ q) t m = go (Memᴰ.cases_cons m) (none_empty_lem q t)
  where
    go : ([] ≡ (r ∷ rs)) ⊎ Memᴰ [] q → (Memᴰ [] q → ⊥) → ⊥
    go (inl e) ih = let z : ◌≡◌ {A = ℕ} 0 (suc (length rs)) = ap length e in omega arith
    go (inr k) ih = ih k

-- b begins the row, so that the row's other ranges are among what may follow b
mem_rests : (q : List Row) {r : Range} {rs : Row} (b : ℕ) → T (none_empty q) → Memᴰ (r ∷ rs) q → T (inside r b) → Memᴰ rs (rests q b)
unfolding rests
mem_rests [] b t m h = absurd (Memᴰ.not-nil m)
mem_rests ([] ∷ q) b t m h = absurd t
mem_rests ((p ∷ ps) ∷ q) {r} {rs} b t m h = go (Memᴰ.cases_cons m) (inside p b) refl (λ k. mem_rests q b t k h)
  where
    go : ((r ∷ rs) ≡ (p ∷ ps)) ⊎ Memᴰ (r ∷ rs) q → (x : Bool) → inside p b ≡ x → (Memᴰ (r ∷ rs) q → Memᴰ rs (rests q b))
        → Memᴰ rs (cond x (ps ∷ rests q b) (rests q b))
    go (inl e) true i ih = let u : rs ≡ ps = cc in Memᴰ.head u
    go (inl e) false i ih = let u : r ≡ p = cc in absurd (true_holds false (sym i ∙ ap (λ (y : Range). inside y b) (sym u) ∙ holds _ h))
    go (inr k) true i ih = Memᴰ.tail (ih k)
    go (inr k) false i ih = ih k

row_width_lem : {r : Range} {rs : Row} {w : Bytes} (b : ℕ) (s : Bytes) → Memᴰ (r ∷ rs) rows → T (inside r b) → Fill rs w → character (b ∷ (w ++ s)) ≡ suc (length w)
unfolding width_behind
row_width_lem {rs = rs} {w = w} b s m h f = by_first b (w ++ s) ∙ go (rests rows b) (lone_rests b) (mem_rests rows b tt m h)
  where
    go : (q : List Row) → T (lone q) → Memᴰ rs q → width_behind q (w ++ s) ≡ suc (length w)
    go [] t k = absurd (Memᴰ.not-nil k)
    go (ps ∷ []) t k = on (Memᴰ.cases_cons k)
      where
        on : (rs ≡ ps) ⊎ Memᴰ rs [] → width_behind (ps ∷ []) (w ++ s) ≡ suc (length w)
        on (inl e) = rw (sym e, fill_fits s f, fill_length f)
        on (inr n) = absurd (Memᴰ.not-nil n)
    go (ps ∷ (qs ∷ q)) t k = absurd t

pub run_rows : {n : ℕ} {s : Bytes} → Run n s → rows_from 0 s ≡ some n
unfolding rows_from
run_rows end = refl
run_rows (char m filled run e) = absurd (none_empty_lem rows tt m)
run_rows (char {s = s} m (byte {b = b} {s = w} h f) run e) =
    ap (rows_from 0) e
    ∙ rows_next b (w ++ s) (length w) (row_width_lem b s m h f)
    ∙ ap (λ (x : Bytes). one_more (rows_from 0 x)) (drop-append_seam w s)
    ∙ ap one_more (run_rows run)

-- ---- what is counted is a run

-- the row of what follows b
row_at : (q : List Row) {rs : Row} (b : ℕ) → Memᴰ rs (rests q b) → (r : Range) × Memᴰ (r ∷ rs) q × T (inside r b)
unfolding rests
row_at [] b m = absurd (Memᴰ.not-nil m)
row_at ([] ∷ q) b m = absurd (Memᴰ.not-nil m)
row_at ((p ∷ ps) ∷ q) {rs} b m = go (inside p b) refl m (row_at q b)
  where
    later : (r : Range) × Memᴰ (r ∷ rs) q × T (inside r b) → (r : Range) × Memᴰ (r ∷ rs) ((p ∷ ps) ∷ q) × T (inside r b)
    later (r, k, h) = (r, Memᴰ.tail k, h)

    go : (x : Bool) → inside p b ≡ x → Memᴰ rs (cond x (ps ∷ rests q b) (rests q b))
        → (Memᴰ rs (rests q b) → (r : Range) × Memᴰ (r ∷ rs) q × T (inside r b)) → (r : Range) × Memᴰ (r ∷ rs) ((p ∷ ps) ∷ q) × T (inside r b)
    go true i k ih = on (Memᴰ.cases_cons k)
      where
        on : (rs ≡ ps) ⊎ Memᴰ rs (rests q b) → (r : Range) × Memᴰ (r ∷ rs) ((p ∷ ps) ∷ q) × T (inside r b)
        on (inl e) = (p, Memᴰ.head (ap (λ (y : Row). p ∷ y) e), true_holds _ i)
        on (inr n) = later (ih n)
    go false i k ih = later (ih k)

fits_fill : (rs : Row) (s : Bytes) → T (fits rs s) → Fill rs (take (length rs) s)
unfolding fits
fits_fill [] s t = filled
fits_fill (r ∷ rs) [] t = absurd t
fits_fill (r ∷ rs) (b ∷ s) t = byte (both_left (inside r b) (fits rs s) t) (fits_fill rs s (both_right (inside r b) (fits rs s) t))

pub rows_run : (s : Bytes) (n : ℕ) → rows_from 0 s ≡ some n → Run n s
unfolding rows_from
rows_run = by_suffix (λ s. (n : ℕ) → rows_from 0 s ≡ some n → Run n s) (λ n e. let z : 0 ≡ n = cc in subst (λ (k : ℕ). Run k []) z end) (λ b s ih n e. go b s n ih e (front b s))
  where
    go : (b : ℕ) (s : Bytes) (n : ℕ) → ((k n : ℕ) → rows_from 0 (drop k s) ≡ some n → Run n (drop k s)) → rows_from 0 (b ∷ s) ≡ some n → Front b s → Run n (b ∷ s)
    go b s n ih e (stuck c) = absurd (some-ne-none n (sym e ∙ rows_stuck b s c))
    go b s n ih e (starts rs a r f c) = on (rows_from 0 (drop (length rs) s)) refl (sym (rows_next b s (length rs) c) ∙ e)
      where
        on : (o : Option ℕ) → rows_from 0 (drop (length rs) s) ≡ o → one_more o ≡ some n → Run n (b ∷ s)
        on none q p = absurd (some-ne-none n (sym p))
        on (some m) q p =
            let k : suc m ≡ n = cc in
            let at = row_at rows b (subst (Memᴰ rs) (sym r) (Memᴰ.head refl)) in
            let split = ap (λ (y : Bytes). b ∷ y) (sym (take-append-drop (length rs) s)) in
            subst (λ (k : ℕ). Run k (b ∷ s)) k (char at.1 (byte at.2 (fits_fill rs s f)) (ih (length rs) m q) split)
