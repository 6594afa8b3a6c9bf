-- UTF-8: a character by its first byte, and strings put together. For causes, and for `utf8`.
use Rattle.std.specs.Prelude.{◌≡◌, refl, Bool, true, false, cond, ◌&&◌, List, [], ◌∷◌, ◌++◌, ℕ, zero, suc, ◌≤◌, ◌<◌, T, leb, ltb, length, take, drop}
use Rattle.std.proofs.Common.{sym, ap, ◌∙◌, subst, append_assoc, arith, ltb-true, take-append-drop, drop_at, length-take-le}
use Rattle.std.proofs.Math.Option.{Option, none, some}
use Rattle.std.proofs.Math.Decide.{dec_lt}
use Rattle.std.proofs.lemmas.Bool.{lt-leb}
use Rattle.std.proofs.Math.Dec.{eqb-suc-zero}
use Rattle.octets.specs.Bytes.{Bytes}
use Rattle.octets.specs.BoolLaws.{and_false, holds, true_holds, both_left, both_right}
use Rattle.octets.specs.RangeLaws.{on_range}
use Rattle.definition.specs.Utf8.{Range, Row, inside, rows, fits, width_in, character, one_more, rows_from, is_run, utf8}

-- what holds of [], and of a string wherever it holds of all that is left of it behind its first byte, holds of every string
pub by_suffix : (P : Bytes → Type 0) → P [] → ((b : ℕ) (s : Bytes) → ((n : ℕ) → P (drop n s)) → P (b ∷ s)) → (s : Bytes) → P s
by_suffix P z f s = go s 0
  where
    go : (s : Bytes) (n : ℕ) → P (drop n s)
    go [] zero = z
    go [] (suc n) = z
    go (b ∷ s) (suc n) = go s n
    go (b ∷ s) zero = f b s (go s)

-- ---- a character by its first byte

-- what each row that b begins asks of the bytes behind it
unfoldable pub rests : List Row → ℕ → List Row
rests [] b = []
rests ([] ∷ q) b = []
rests ((r ∷ rs) ∷ q) b = cond (inside r b) (rs ∷ rests q b) (rests q b)

-- how many bytes the character takes whose first byte asks for one of these
unfoldable pub width_behind : List Row → Bytes → ℕ
width_behind [] s = 0
width_behind (rs ∷ q) s = cond (fits rs s) (suc (length rs)) (width_behind q s)

by_rests : (q : List Row) (b : ℕ) (s : Bytes) → width_in q (b ∷ s) ≡ width_behind (rests q b) s
unfolding width_in width_behind rests fits
by_rests [] b s = refl
by_rests ([] ∷ q) b s = refl
by_rests ((r ∷ rs) ∷ q) b s = go (inside r b) (by_rests q b s)
  where
    go : (x : Bool) → width_in q (b ∷ s) ≡ width_behind (rests q b) s
        → cond (x && fits rs s) (suc (length rs)) (width_in q (b ∷ s)) ≡ width_behind (cond x (rs ∷ rests q b) (rests q b)) s
    go true ih = ap (cond (fits rs s) (suc (length rs))) ih
    go false ih = ih

pub by_first : (b : ℕ) (s : Bytes) → character (b ∷ s) ≡ width_behind (rests rows b) s
unfolding character
by_first b s = by_rests rows b s

-- tails, or a part of them
abbrev pub in_tail : Range → Bool
in_tail r = leb 0x80 r.lo && leb r.hi 0xBF

abbrev pub all_tails : Row → Bool
all_tails [] = true
all_tails (r ∷ rs) = in_tail r && all_tails rs

-- at most one row, and nothing but tails in it
abbrev pub lone : List Row → Bool
lone [] = true
lone (rs ∷ []) = all_tails rs
lone (rs ∷ (rs' ∷ q)) = false

-- no row begins with a byte from h on
abbrev end_before : ℕ → List Row → Bool
end_before h [] = true
end_before h ([] ∷ q) = true
end_before h ((r ∷ rs) ∷ q) = ltb r.hi h && end_before h q

none_from : (h b : ℕ) (q : List Row) → T (end_before h q) → h ≤ b → rests q b ≡ []
unfolding rests
none_from h b [] t l = refl
none_from h b ([] ∷ q) t l = refl
none_from h b ((r ∷ rs) ∷ q) t l =
    let k = ltb-true r.hi h (holds _ (both_left (ltb r.hi h) (end_before h q) t)) in
    rw (lt-leb b r.hi (omega arith), and_false (leb r.lo b)) (none_from h b q (both_right (ltb r.hi h) (end_before h q) t) l)

pub lone_rests : (b : ℕ) → T (lone (rests rows b))
unfolding rests
lone_rests b = go (dec_lt b 0xF5)
  where
    go : Dec (b < 0xF5) → T (lone (rests rows b))
    go (yes l) = on_range (λ x. lone (rests rows x)) 0xF5 0 tt b (omega arith) (omega arith)
    go (no l) = subst (λ (q : List Row). T (lone q)) (sym (none_from 0xF5 b rows tt (omega arith))) tt

-- ---- what stands at the front of b and s: no character, or one, whose other bytes are tails

pub data Front (b : ℕ) (s : Bytes) : Type 0 where
  stuck : character (b ∷ s) ≡ 0 → Front b s
  starts : (rs : Row) → T (all_tails rs) → rests rows b ≡ rs ∷ [] → T (fits rs s) → character (b ∷ s) ≡ suc (length rs) → Front b s

pub front : (b : ℕ) (s : Bytes) → Front b s
unfolding width_behind
front b s = go (rests rows b) refl (lone_rests b)
  where
    go : (q : List Row) → rests rows b ≡ q → T (lone q) → Front b s
    go [] e t = stuck (by_first b s ∙ rw e)
    go (rs ∷ []) e t = on (fits rs s) refl
      where
        on : (x : Bool) → fits rs s ≡ x → Front b s
        on true f = starts rs t e (true_holds _ f) (by_first b s ∙ rw (e, f))
        on false f = stuck (by_first b s ∙ rw (e, f))
    go (rs ∷ (rs' ∷ q)) e t = absurd t

-- its bytes alone decide on it, whatever follows them
fits_own : (rs : Row) (s x : Bytes) → T (fits rs s) → fits rs (take (length rs) s ++ x) ≡ true
unfolding fits
fits_own [] s x t = refl
fits_own (r ∷ rs) [] x t = absurd t
fits_own (r ∷ rs) (b ∷ s) x t =
    rw (holds (inside r b) (both_left (inside r b) (fits rs s) t)) (fits_own rs s x (both_right (inside r b) (fits rs s) t))

pub fits_le : (rs : Row) (s : Bytes) → T (fits rs s) → length rs ≤ length s
unfolding fits
fits_le [] s t = omega arith
fits_le (r ∷ rs) [] t = absurd t
fits_le (r ∷ rs) (b ∷ s) t = let l = fits_le rs s (both_right (inside r b) (fits rs s) t) in omega arith

-- ---- runs, character by character

rows_skip : (n : ℕ) (s : Bytes) → rows_from n s ≡ rows_from 0 (drop n s)
unfolding rows_from
rows_skip zero s = refl
rows_skip (suc n) [] = refl
rows_skip (suc n) (b ∷ s) = rows_skip n s

pub rows_next : (b : ℕ) (s : Bytes) (n : ℕ) → character (b ∷ s) ≡ suc n → rows_from 0 (b ∷ s) ≡ one_more (rows_from 0 (drop n s))
unfolding rows_from
rows_next b s n e = rw (e, eqb-suc-zero n) (ap one_more (rows_skip n s))

pub rows_stuck : (b : ℕ) (s : Bytes) → character (b ∷ s) ≡ 0 → rows_from 0 (b ∷ s) ≡ none
unfolding rows_from
rows_stuck b s e = rw e

run_more : (o : Option ℕ) → is_run (one_more o) ≡ is_run o
run_more none = refl
run_more (some n) = refl

-- whether s is UTF-8 is decided behind its first character, or at once where it begins with none
pub utf8_next : (b : ℕ) (s : Bytes) (n : ℕ) → character (b ∷ s) ≡ suc n → utf8 (b ∷ s) ≡ utf8 (drop n s)
unfolding utf8
utf8_next b s n e = ap is_run (rows_next b s n e) ∙ run_more (rows_from 0 (drop n s))

pub utf8_stuck : (b : ℕ) (s : Bytes) → character (b ∷ s) ≡ 0 → utf8 (b ∷ s) ≡ false
unfolding utf8
utf8_stuck b s e = ap is_run (rows_stuck b s e)

-- the first character of b and s stays one where other bytes stand behind it
pub utf8_front : (b : ℕ) (s x : Bytes) (rs : Row) → rests rows b ≡ rs ∷ [] → T (fits rs s) → utf8 (b ∷ (take (length rs) s ++ x)) ≡ utf8 x
unfolding width_behind
utf8_front b s x rs e f =
    utf8_next b (take (length rs) s ++ x) (length rs) (by_first b (take (length rs) s ++ x) ∙ rw (e, fits_own rs s x f))
    ∙ ap utf8 (drop_at (take (length rs) s) x (length rs) (length-take-le (length rs) s (fits_le rs s f)))

pub utf8_append : (s t : Bytes) → utf8 s ≡ true → utf8 (s ++ t) ≡ utf8 t
utf8_append s t = by_suffix (λ s. utf8 s ≡ true → utf8 (s ++ t) ≡ utf8 t) (λ e. refl) (λ b s ih e. go b s ih e (front b s)) s
  where
    go : (b : ℕ) (s : Bytes) → ((n : ℕ) → utf8 (drop n s) ≡ true → utf8 (drop n s ++ t) ≡ utf8 t) → utf8 (b ∷ s) ≡ true → Front b s → utf8 (b ∷ (s ++ t)) ≡ utf8 t
    go b s ih e (stuck c) = absurd (true_holds false (sym (utf8_stuck b s c) ∙ e))
    go b s ih e (starts rs a r f c) =
        let k = length rs in
        ap (λ (y : Bytes). utf8 (b ∷ (y ++ t))) (sym (take-append-drop k s))
        ∙ ap (λ (y : Bytes). utf8 (b ∷ y)) (append_assoc (take k s) (drop k s) t)
        ∙ utf8_front b s (drop k s ++ t) rs r f
        ∙ ih k (sym (utf8_next b s k c) ∙ e)
