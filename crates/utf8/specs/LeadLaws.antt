-- A run has as many rows as it has bytes that are no tails: of each row the first.
use Rattle.std.specs.Prelude.{◌≡◌, refl, Bool, true, false, cond, List, [], ◌∷◌, ℕ, suc, T, leb, length, drop}
use Rattle.std.proofs.Common.{sym, ap, ◌∙◌, subst, arith, leb-true, le-leb}
use Rattle.std.proofs.Math.Option.{Option, none, some, some-ne-none}
use Rattle.std.specs.Prelude.{not}
use Rattle.std.proofs.lemmas.List.Sums.{sum_by-cons}
use Rattle.octets.specs.Bytes.{Bytes}
use Rattle.octets.specs.BoolLaws.{holds, true_holds, both_left, both_right}
use Rattle.octets.specs.RangeLaws.{on_range}
use Rattle.definition.specs.Utf8.{Range, Row, inside, tail, rows, fits, one_more, rows_from, code_points, is_run, utf8}
use Rattle.definition.proofs.Laws.Text.Utf8.{by_suffix, rests, in_tail, all_tails, Front, stuck, starts, front, rows_next, rows_stuck}
use Rattle.utf8.specs.Meaning.{leads_in}

-- ---- the bytes of a row

-- a tail begins no row
abbrev no_row : List Row → Bool
no_row [] = true
no_row (rs ∷ q) = false

no_tail : (b : ℕ) (rs : Row) → rests rows b ≡ rs ∷ [] → inside tail b ≡ false
unfolding rests
no_tail b rs e = go (inside tail b) refl
  where
    go : (x : Bool) → inside tail b ≡ x → x ≡ false
    go false t = refl
    go true t =
        let low = leb-true 0x80 b (holds _ (both_left (leb 0x80 b) (leb b 0xBF) (true_holds _ t))) in
        let high = leb-true b 0xBF (holds _ (both_right (leb 0x80 b) (leb b 0xBF) (true_holds _ t))) in
        absurd (subst (λ (q : List Row). T (no_row q)) e (on_range (λ (x : ℕ). no_row (rests rows x)) 64 0x80 tt b low (omega arith)))

lead_counts : (b : ℕ) (s : Bytes) → inside tail b ≡ false → leads_in (b ∷ s) ≡ suc (leads_in s)
unfolding leads_in
lead_counts b s e = rw (sum_by-cons (λ (x : ℕ). cond (not (inside tail x)) 1 0) b s, e) (omega arith)

tail_counts : (b : ℕ) (s : Bytes) → inside tail b ≡ true → leads_in (b ∷ s) ≡ leads_in s
unfolding leads_in
tail_counts b s e = rw (sum_by-cons (λ (x : ℕ). cond (not (inside tail x)) 1 0) b s, e) (omega arith)

-- what stands in a tail's range, or in a part of it, is a tail
in_tail_lem : (r : Range) (b : ℕ) → T (in_tail r) → T (inside r b) → inside tail b ≡ true
in_tail_lem r b t h =
    let lo = leb-true 0x80 r.lo (holds _ (both_left (leb 0x80 r.lo) (leb r.hi 0xBF) t)) in
    let hi = leb-true r.hi 0xBF (holds _ (both_right (leb 0x80 r.lo) (leb r.hi 0xBF) t)) in
    let low = leb-true r.lo b (holds _ (both_left (leb r.lo b) (leb b r.hi) h)) in
    let high = leb-true b r.hi (holds _ (both_right (leb r.lo b) (leb b r.hi) h)) in
    rw (le-leb 0x80 b (omega arith), le-leb b 0xBF (omega arith))

leads_tails : (rs : Row) (s : Bytes) → T (all_tails rs) → T (fits rs s) → leads_in s ≡ leads_in (drop (length rs) s)
unfolding fits
leads_tails [] s t f = refl
leads_tails (r ∷ rs) [] t f = absurd f
leads_tails (r ∷ rs) (b ∷ s) t f =
    let h = in_tail_lem r b (both_left (in_tail r) (all_tails rs) t) (both_left (inside r b) (fits rs s) f) in
    let ih = leads_tails rs s (both_right (in_tail r) (all_tails rs) t) (both_right (inside r b) (fits rs s) f) in
    tail_counts b s h ∙ ih

-- ---- a run

abbrev Counts : Bytes → Type 0
Counts s = (k : ℕ) → code_points s ≡ some k → leads_in s ≡ k

rows_leads : (s : Bytes) → Counts s
unfolding rows_from leads_in
rows_leads = by_suffix Counts (λ k e. cc) (λ b s ih k e. go b s ih k e (front b s))
  where
    go : (b : ℕ) (s : Bytes) → ((n : ℕ) → Counts (drop n s)) → (k : ℕ) → code_points (b ∷ s) ≡ some k → Front b s → leads_in (b ∷ s) ≡ k
    go b s ih k e (stuck c) = absurd (some-ne-none k (sym e ∙ rows_stuck b s c))
    go b s ih k e (starts rs t r f c) = on (code_points (drop (length rs) s)) refl (sym (rows_next b s (length rs) c) ∙ e)
      where
        on : (o : Option ℕ) → code_points (drop (length rs) s) ≡ o → one_more o ≡ some k → leads_in (b ∷ s) ≡ k
        on none q p = absurd (some-ne-none k (sym p))
        on (some m) q p =
            let z : suc m ≡ k = cc in
            omega (arith, z, lead_counts b s (no_tail b rs r), leads_tails rs s t f, ih (length rs) m q)

pub run_counted : (s : Bytes) → utf8 s ≡ true → some (leads_in s) ≡ code_points s
unfolding utf8
run_counted s e = go (code_points s) refl e
  where
    go : (o : Option ℕ) → code_points s ≡ o → is_run o ≡ true → some (leads_in s) ≡ o
    go none q h = absurd (true_holds false h)
    go (some k) q h = ap some (rows_leads s k q)

pub no_run : (s : Bytes) → utf8 s ≡ false → none ≡ code_points s
unfolding utf8
no_run s e = go (code_points s) e
  where
    go : (o : Option ℕ) → is_run o ≡ false → none ≡ o
    go none h = refl
    go (some k) h = absurd (true_holds false (sym h))
