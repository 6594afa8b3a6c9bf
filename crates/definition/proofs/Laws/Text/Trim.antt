-- A string without white space at both ends is a part of it, and is UTF-8 where the string is. For causes.
use Rattle.std.specs.Prelude.{◌≡◌, refl, Bool, true, false, cond, ◌&&◌, List, [], ◌∷◌, ◌++◌, map, ℕ, zero, suc, pred, ◌≤◌, T, eqb, leb, length, get_or, take, drop}
use Rattle.std.proofs.Common.{sym, ap, ◌∙◌, arith, leb→le, length-take, length-drop, take-append-drop, take_at}
use Rattle.octets.specs.Bytes.{Bytes, begins}
use Rattle.octets.specs.BoolLaws.{both_left, both_right, holds, true_holds}
use Rattle.octets.specs.RangeLaws.{eq_on}
use Rattle.definition.specs.Utf8.{Range, Row, inside, fits, width_in, character, rows_from, utf8}
use Rattle.definition.proofs.Laws.Text.Utf8.{by_suffix, in_tail, all_tails, Front, stuck, starts, front, utf8_next, utf8_stuck, utf8_front, utf8_append}
use Rattle.definition.specs.White.{white, encoded, front_of, space, start_from, end_from, keep, stay, trim}
use Rattle.definition.proofs.Laws.Text.White.{begins_split, space_front, start_space, start_plain, keep_all, end_space, end_plain}

-- ---- a part

start_drop : (n : ℕ) (s : Bytes) → (m : ℕ) × (start_from n s ≡ drop m s)
unfolding start_from
start_drop n [] = (0, refl)
start_drop (suc n) (b ∷ s) = let p = start_drop n s in (suc p.0, p.1)
start_drop zero (b ∷ s) = go (eqb (space (b ∷ s)) 0) (start_drop (pred (space (b ∷ s))) s)
  where
    go : (x : Bool) → (m : ℕ) × (start_from (pred (space (b ∷ s))) s ≡ drop m s)
        → (m : ℕ) × (cond x (b ∷ s) (start_from (pred (space (b ∷ s))) s) ≡ drop m (b ∷ s))
    go true p = (0, refl)
    go false p = (suc p.0, p.1)

keep_take : (b : ℕ) (x s : Bytes) (n : ℕ) → x ≡ take n s → (m : ℕ) × (keep b x ≡ take m (b ∷ s))
keep_take b [] s n e = (0, refl)
keep_take b (y ∷ x) s n e = (suc n, ap {B = Bytes} (λ z. b ∷ z) e)

end_take : (n : ℕ) (s : Bytes) → (m : ℕ) × (end_from n s ≡ take m s)
unfolding end_from
end_take n [] = (0, refl)
end_take (suc n) (b ∷ s) = let p = end_take n s in keep_take b (end_from n s) s p.0 p.1
end_take zero (b ∷ s) = go (space (b ∷ s)) (end_take (pred (space (b ∷ s))) s)
  where
    x : Bytes
    x = end_from (pred (space (b ∷ s))) s

    go : (n : ℕ) → (m : ℕ) × (x ≡ take m s) → (m : ℕ) × (stay n b x ≡ take m (b ∷ s))
    go zero p = (suc p.0, ap {B = Bytes} (λ z. b ∷ z) p.1)
    go (suc n) p = keep_take b x s p.0 p.1

trim_part : (s : Bytes) → (m : ℕ) × (n : ℕ) × (trim s ≡ take n (drop m s))
unfolding trim
trim_part s =
    let p = start_drop 0 s in
    let q = end_take 0 (start_from 0 s) in
    (p.0, q.0, q.1 ∙ ap (take q.0) p.1)

pub trim_le : (s : Bytes) → length (trim s) ≤ length s
trim_le s = let p = trim_part s in rw p.2 (simp (length-take, length-drop) (omega arith))

-- ---- a white space character is UTF-8

abbrev all_utf8 : List Bytes → Bool
all_utf8 [] = true
all_utf8 (w ∷ ws) = utf8 w && all_utf8 ws

front_utf8 : (ws : List Bytes) (s : Bytes) → T (all_utf8 ws) → utf8 (take (front_of ws s) s) ≡ true
unfolding front_of utf8 rows_from
front_utf8 [] s t = refl
front_utf8 (w ∷ ws) s t = go (begins w s) refl (front_utf8 ws s (both_right (utf8 w) (all_utf8 ws) t))
  where
    go : (x : Bool) → begins w s ≡ x → utf8 (take (front_of ws s) s) ≡ true → utf8 (take (cond x (length w) (front_of ws s)) s) ≡ true
    go true e ih =
        ap (λ (y : Bytes). utf8 (take (length w) y)) (begins_split w s (true_holds _ e))
        ∙ ap utf8 (take_at w (drop (length w) s) (length w) refl)
        ∙ holds _ (both_left (utf8 w) (all_utf8 ws) t)
    go false e ih = ih

space_utf8 : (s : Bytes) → utf8 (take (space s) s) ≡ true
unfolding space utf8 rows_from character width_in fits
space_utf8 s = front_utf8 (map encoded white) s tt

behind_space : (s : Bytes) → utf8 (drop (space s) s) ≡ utf8 s
behind_space s =
    sym (utf8_append (take (space s) s) (drop (space s) s) (space_utf8 s)) ∙ ap utf8 (take-append-drop (space s) s)

-- what is left behind the white space at the front of b and s
behind : (b : ℕ) (s : Bytes) (n : ℕ) → space (b ∷ s) ≡ suc n → drop (space (b ∷ s)) (b ∷ s) ≡ drop n s
behind b s n z = ap (λ (k : ℕ). drop k (b ∷ s)) z

behind_utf8 : (b : ℕ) (s : Bytes) (n : ℕ) → space (b ∷ s) ≡ suc n → utf8 (drop n s) ≡ utf8 (b ∷ s)
behind_utf8 b s n z = ap utf8 (sym (behind b s n z)) ∙ behind_space (b ∷ s)

-- ---- and none begins within a character

tail_plain : (r : Range) (b : ℕ) (s : Bytes) → T (in_tail r) → T (inside r b) → space (b ∷ s) ≡ 0
unfolding space front_of begins
tail_plain r b s t i =
    let l = leb→le 0x80 r.lo (both_left (leb 0x80 r.lo) (leb r.hi 0xBF) t) in
    let h = leb→le r.hi 0xBF (both_right (leb 0x80 r.lo) (leb r.hi 0xBF) t) in
    let m = leb→le r.lo b (both_left (leb r.lo b) (leb b r.hi) i) in
    let k = leb→le b r.hi (both_right (leb r.lo b) (leb b r.hi) i) in
    space_front (b ∷ s) ∙ sym (eq_on (λ (x : ℕ). space (x ∷ get_or s 0 0 ∷ get_or s 1 0 ∷ [])) 0 64 0x80 tt b (omega arith) (omega arith))

-- the tails at the front of s stay at its end
end_tails : (rs : Row) (s : Bytes) → T (all_tails rs) → T (fits rs s) → end_from 0 s ≡ take (length rs) s ++ end_from 0 (drop (length rs) s)
unfolding fits
end_tails [] s t f = refl
end_tails (r ∷ rs) [] t f = absurd f
end_tails (r ∷ rs) (b ∷ s) t f =
    let z = tail_plain r b s (both_left (in_tail r) (all_tails rs) t) (both_left (inside r b) (fits rs s) f) in
    let ih = end_tails rs s (both_right (in_tail r) (all_tails rs) t) (both_right (inside r b) (fits rs s) f) in
    end_plain b s z ∙ ap {B = Bytes} (λ x. b ∷ x) ih

-- ---- so both ends are cut between characters

abbrev Stays : (Bytes → Bytes) → Bytes → Type 0
Stays f s = utf8 s ≡ true → utf8 (f s) ≡ true

start_utf8 : (s : Bytes) → Stays (start_from 0) s
unfolding start_from
start_utf8 = by_suffix (Stays (start_from 0)) (λ e. e) (λ b s ih e. go b s ih e (space (b ∷ s)) refl)
  where
    go : (b : ℕ) (s : Bytes) → ((n : ℕ) → Stays (start_from 0) (drop n s)) → utf8 (b ∷ s) ≡ true → (n : ℕ) → space (b ∷ s) ≡ n → utf8 (start_from 0 (b ∷ s)) ≡ true
    go b s ih e zero z = ap utf8 (start_plain (b ∷ s) z) ∙ e
    go b s ih e (suc n) z =
        ap utf8 (start_space (b ∷ s) (λ y. omega arith) ∙ ap (start_from 0) (behind b s n z)) ∙ ih n (behind_utf8 b s n z ∙ e)

kept : (w x : Bytes) → utf8 w ≡ true → utf8 x ≡ true → utf8 (keep_all w x) ≡ true
kept w [] e f = f
kept w (a ∷ x) e f = utf8_append w (a ∷ x) e ∙ f

end_utf8 : (s : Bytes) → Stays (end_from 0) s
unfolding end_from
end_utf8 = by_suffix (Stays (end_from 0)) (λ e. e) (λ b s ih e. go b s ih e (space (b ∷ s)) refl (front b s))
  where
    go : (b : ℕ) (s : Bytes) → ((n : ℕ) → Stays (end_from 0) (drop n s)) → utf8 (b ∷ s) ≡ true → (n : ℕ) → space (b ∷ s) ≡ n → Front b s → utf8 (end_from 0 (b ∷ s)) ≡ true
    go b s ih e zero z (stuck c) = absurd (true_holds false (sym (utf8_stuck b s c) ∙ e))
    go b s ih e zero z (starts rs t r f c) =
        ap utf8 (end_plain b s z ∙ ap {B = Bytes} (λ x. b ∷ x) (end_tails rs s t f))
        ∙ utf8_front b s (end_from 0 (drop (length rs) s)) rs r f
        ∙ ih (length rs) (sym (utf8_next b s (length rs) c) ∙ e)
    go b s ih e (suc n) z v =
        let w = take (space (b ∷ s)) (b ∷ s) in
        let p : end_from 0 (b ∷ s) ≡ keep_all w (end_from 0 (drop n s)) =
        end_space (b ∷ s) (λ y. omega arith) ∙ ap (λ (y : Bytes). keep_all w (end_from 0 y)) (behind b s n z) in
        ap utf8 p ∙ kept w (end_from 0 (drop n s)) (space_utf8 (b ∷ s)) (ih n (behind_utf8 b s n z ∙ e))

pub trim_utf8 : (s : Bytes) → utf8 s ≡ true → utf8 (trim s) ≡ true
unfolding trim
trim_utf8 s e = end_utf8 (start_from 0 s) (start_utf8 s e)
