-- A row behind its first byte, and the row of a first byte, by one test that is computed.
use mathlib.Core.Path.{◌≡◌, refl, sym, ap, ◌∙◌}
use mathlib.Core.Bool.{Bool, true, false, cond, ◌&&◌}
use mathlib.Core.List.{List, [], ◌∷◌}
use Prim.Native.Nat.{ℕ, zero, suc, ◌+◌, ◌-◌, ◌≤◌, ◌<◌}
use native.Mathlib.Omega.{arith}
use lib.Dec.{T, eqb, eqb→eq}
use lib.ListN.{length, get_or, take, drop, replicate, length-drop, length-replicate}
use lib.Seq.{drop-cons}
use Rattle.octets.specs.Bytes.{Bytes}
use Rattle.octets.specs.BoolLaws.{fails, both_left, both_right}
use Rattle.octets.specs.RangeLaws.{upto, on_range}
use Rattle.definition.specs.Utf8.{Range, Row, inside, tail, rows, fits, width_in, character}
use Rattle.definition.proofs.Laws.Text.Utf8.{rests, width_behind, by_first, fits_le}
use Rattle.std.specs.Prelude.{Some, None}
use Rattle.std.specs.Bool.{then_some}
use Rattle.std.specs.List.{list_all}
use Rattle.utf8.specs.Meaning.{second_then_tails, width_of, row_width}

-- ---- a row whose first byte is there

then_cond : (t : Bool) (n : ℕ) → then_some t n ≡ cond t (Some n) None
then_cond true n = refl
then_cond false n = refl

tails_fit : (n : ℕ) (s : Bytes) → n ≤ length s → fits (replicate n tail) s ≡ list_all (inside tail) (take n s)
unfolding fits
tails_fit zero s h = refl
tails_fit (suc n) [] h = absurd (omega arith)
tails_fit (suc n) (b ∷ s) h = ap (λ (t : Bool). inside tail b && t) (tails_fit n s (omega arith))

pub row_short : (n : ℕ) (r : Range) (s : Bytes) → 2 ≤ n → length s < n → None ≡ row_width n r s
unfolding row_width
row_short n r s h l =
    rw (fails (fits (second_then_tails n r) (drop 1 s)) (λ t. omega (arith, fits_le _ _ t, length-replicate (n - 2) tail, length-drop 1 s)))

pub row_second : (n : ℕ) (r : Range) (s : Bytes) → 1 < length s → inside r (get_or s 1 0) ≡ false → None ≡ row_width n r s
unfolding row_width fits
row_second n r s h e = rw (drop-cons s 1 0 h, e)

pub row_tails : (n : ℕ) (r : Range) (s : Bytes) (t : Bool) → 2 ≤ n → n ≤ length s → inside r (get_or s 1 0) ≡ true → t ≡ list_all (inside tail) (take (n - 2) (drop 2 s))
    → then_some t n ≡ row_width n r s
unfolding row_width fits
row_tails n r s t h l second e =
    let k : 1 < length s = omega arith in
    rw (drop-cons s 1 0 k, second, tails_fit (n - 2) (drop 2 s) (omega (arith, length-drop 2 s)), ← e) (then_cond t n)

-- ---- what may follow a first byte, by a test that is computed for each byte of a range

abbrev pub same_range : Range → Range → Bool
same_range r q = eqb r.lo q.lo && eqb r.hi q.hi

same_range_eq : (r q : Range) → T (same_range r q) → r ≡ q
same_range_eq r q t =
    let l = eqb→eq r.lo q.lo (both_left (eqb r.lo q.lo) (eqb r.hi q.hi) t) in
    let h = eqb→eq r.hi q.hi (both_right (eqb r.lo q.lo) (eqb r.hi q.hi) t) in
    λ i. record { lo = l i; hi = h i }

-- lists whose elements pass a test of two, one by one
abbrev pub all_pass : {A : Type 0} → (A → A → Bool) → List A → List A → Bool
all_pass test [] [] = true
all_pass test [] (b ∷ m) = false
all_pass test (a ∷ l) [] = false
all_pass test (a ∷ l) (b ∷ m) = test a b && all_pass test l m

all_pass_eq : {A : Type 0} (test : A → A → Bool) → ((a b : A) → T (test a b) → a ≡ b) → (l m : List A) → T (all_pass test l m) → l ≡ m
all_pass_eq test tested [] [] t = refl
all_pass_eq test tested [] (b ∷ m) t = absurd t
all_pass_eq test tested (a ∷ l) [] t = absurd t
all_pass_eq test tested (a ∷ l) (b ∷ m) t =
    let e = tested a b (both_left (test a b) (all_pass test l m) t) in
    let es = all_pass_eq test tested l m (both_right (test a b) (all_pass test l m) t) in
    λ i. e i ∷ es i

abbrev pub same_rows : List Row → List Row → Bool
same_rows = all_pass (all_pass same_range)

same_rows_eq : (q p : List Row) → T (same_rows q p) → q ≡ p
same_rows_eq = all_pass_eq (all_pass same_range) (all_pass_eq same_range same_range_eq)

-- each of the n bytes from lo on asks for one of the rows q
rests_on : (q : List Row) (n lo : ℕ) → T (upto (λ (b : ℕ). same_rows q (rests rows b)) n lo)
    → (s : Bytes) → 0 < length s → lo ≤ get_or s 0 0 → get_or s 0 0 < lo + n → width_behind q (drop 1 s) ≡ character s
rests_on q n lo t s h low high =
    let b = get_or s 0 0 in
    let e = same_rows_eq q (rests rows b) (on_range (λ (x : ℕ). same_rows q (rests rows x)) n lo t b low high) in
    sym (ap character (drop-cons s 0 0 h) ∙ by_first b (drop 1 s) ∙ ap (λ (p : List Row). width_behind p (drop 1 s)) (sym e))

-- ---- so a character by its first byte

width_of_row : (t : Bool) (n k : ℕ) → suc k ≡ n → cond t (Some n) None ≡ width_of (cond t (suc k) 0)
width_of_row true n k e = ap (λ (m : ℕ). Some m) (sym e)
width_of_row false n k e = refl

-- each of the k bytes from lo on begins a row of n bytes, r the range of the second
pub row_on : (n : ℕ) (r : Range) (k lo : ℕ) → T (upto (λ (b : ℕ). same_rows (second_then_tails n r ∷ []) (rests rows b)) k lo)
    → (s : Bytes) → 2 ≤ n → 0 < length s → lo ≤ get_or s 0 0 → get_or s 0 0 < lo + k → row_width n r s ≡ width_of (character s)
unfolding row_width width_behind
row_on n r k lo t s two h low high =
    let w : suc (length (second_then_tails n r)) ≡ n = omega (arith, length-replicate (n - 2) tail) in
    width_of_row (fits (second_then_tails n r) (drop 1 s)) n _ w ∙ ap width_of (rests_on (second_then_tails n r ∷ []) k lo t s h low high)

-- none of them begins a row
pub row_none : (k lo : ℕ) → T (upto (λ (b : ℕ). same_rows [] (rests rows b)) k lo) → (s : Bytes) → 0 < length s → lo ≤ get_or s 0 0 → get_or s 0 0 < lo + k
    → None ≡ width_of (character s)
unfolding width_behind
row_none k lo t s h low high = ap width_of (rests_on [] k lo t s h low high)

pub row_ascii : (s : Bytes) → 0 < length s → get_or s 0 0 < 128 → Some 1 ≡ width_of (character s)
unfolding width_behind rests fits
row_ascii s h l = ap width_of (rests_on ([] ∷ []) 128 0 tt s h (omega arith) (omega arith))

pub row_end : (s : Bytes) → length s ≡ 0 → None ≡ width_of (character s)
unfolding character width_in fits
row_end [] h = refl
row_end (b ∷ s) h = absurd (omega arith)
