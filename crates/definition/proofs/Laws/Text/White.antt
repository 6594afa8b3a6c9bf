-- White space, and a string without it at both ends. For causes, and for `cause`.
use Rattle.std.specs.Prelude.{◌≡◌, refl, Bool, true, false, cond, ◌&&◌, ◌||◌, not, List, [], ◌∷◌, ◌++◌, map, ℕ, zero, suc, ◌≤◌, T, eqb, leb, length, get_or, take, drop}
use Rattle.std.proofs.Common.{sym, ap, ◌∙◌, append_assoc, append-nil, arith, ne_eqb, eqb-true, eqb→eq, leb→le}
use Rattle.std.proofs.Math.Dec.{eqb-suc-zero}
use Rattle.octets.specs.Bytes.{Bytes, begins}
use Rattle.octets.specs.BoolLaws.{true_holds, both_left, both_right}
use Rattle.definition.specs.White.{white, encoded, front_of, space, start_from, end_from, keep, trim, has_space}

-- ---- what s begins with

pub begins_split : (p s : Bytes) → T (begins p s) → s ≡ p ++ drop (length p) s
unfolding begins
begins_split [] s h = refl
begins_split (a ∷ p) [] h = absurd h
begins_split (a ∷ p) (b ∷ s) h =
    let e = eqb→eq a b (both_left (eqb a b) (begins p s) h) in
    let r = begins_split p s (both_right (eqb a b) (begins p s) h) in
    cc

pub begins_le : (p s : Bytes) → T (begins p s) → length p ≤ length s
unfolding begins
begins_le [] s h = omega arith
begins_le (a ∷ p) [] h = absurd h
begins_le (a ∷ p) (b ∷ s) h = let l = begins_le p s (both_right (eqb a b) (begins p s) h) in omega arith

front_le : (ws : List Bytes) (s : Bytes) → front_of ws s ≤ length s
unfolding front_of
front_le [] s = omega arith
front_le (w ∷ ws) s = go (begins w s) refl (front_le ws s)
  where
    go : (x : Bool) → begins w s ≡ x → front_of ws s ≤ length s → cond x (length w) (front_of ws s) ≤ length s
    go true e ih = begins_le w s (true_holds _ e)
    go false e ih = ih

pub space_le : (s : Bytes) → space s ≤ length s
unfolding space
space_le s = front_le (map encoded white) s

-- ---- three bytes are enough to see white space

-- the first n bytes, with 0 past the end
abbrev firsts : ℕ → Bytes → Bytes
firsts zero s = []
firsts (suc n) [] = 0 ∷ firsts n []
firsts (suc n) (x ∷ s) = x ∷ firsts n s

-- at most n bytes, none of them 0
abbrev fits : ℕ → Bytes → Bool
fits n [] = true
fits zero (a ∷ w) = false
fits (suc n) (a ∷ w) = leb 1 a && fits n w

abbrev all_fit : ℕ → List Bytes → Bool
all_fit n [] = true
all_fit n (w ∷ ws) = fits n w && all_fit n ws

begins_firsts : (n : ℕ) (w s : Bytes) → T (fits n w) → begins w s ≡ begins w (firsts n s)
unfolding begins
begins_firsts n [] s t = refl
begins_firsts zero (a ∷ w) s t = absurd t
begins_firsts (suc n) (a ∷ w) [] t =
    let h = leb→le 1 a (both_left (leb 1 a) (fits n w) t) in
    rw (ne_eqb a 0 (λ e. omega arith))
begins_firsts (suc n) (a ∷ w) (x ∷ s) t = rw (begins_firsts n w s (both_right (leb 1 a) (fits n w) t))

front_firsts : (n : ℕ) (ws : List Bytes) (s : Bytes) → T (all_fit n ws) → front_of ws s ≡ front_of ws (firsts n s)
unfolding front_of
front_firsts n [] s t = refl
front_firsts n (w ∷ ws) s t =
    rw (begins_firsts n w s (both_left (fits n w) (all_fit n ws) t), front_firsts n ws s (both_right (fits n w) (all_fit n ws) t))

firsts_three : (s : Bytes) → firsts 3 s ≡ get_or s 0 0 ∷ get_or s 1 0 ∷ get_or s 2 0 ∷ []
firsts_three [] = refl
firsts_three (a ∷ []) = refl
firsts_three (a ∷ b ∷ []) = refl
firsts_three (a ∷ b ∷ c ∷ s) = refl

pub space_front : (s : Bytes) → space s ≡ space (get_or s 0 0 ∷ get_or s 1 0 ∷ get_or s 2 0 ∷ [])
unfolding space
space_front s = front_firsts 3 (map encoded white) s tt ∙ ap (front_of (map encoded white)) (firsts_three s)

-- ---- white space at the start

start_skip : (n : ℕ) (s : Bytes) → start_from n s ≡ start_from 0 (drop n s)
unfolding start_from
start_skip zero s = refl
start_skip (suc n) [] = refl
start_skip (suc n) (b ∷ s) = start_skip n s

pub start_space : (s : Bytes) → (space s ≡ 0 → ⊥) → start_from 0 s ≡ start_from 0 (drop (space s) s)
unfolding space front_of begins start_from
start_space [] h = absurd (h refl)
start_space (b ∷ s) h = go (space (b ∷ s)) refl
  where
    go : (n : ℕ) → space (b ∷ s) ≡ n → start_from 0 (b ∷ s) ≡ start_from 0 (drop n (b ∷ s))
    go zero e = absurd (h e)
    go (suc n) e = rw (start_from, e, eqb-suc-zero n) (start_skip n s)

pub start_plain : (s : Bytes) → space s ≡ 0 → start_from 0 s ≡ s
unfolding start_from
start_plain [] e = refl
start_plain (b ∷ s) e = rw (start_from, e)

-- ---- white space at the end

-- the bytes w of white space stay where a byte that stays follows
abbrev pub keep_all : Bytes → Bytes → Bytes
keep_all w [] = []
keep_all w (x ∷ s) = w ++ x ∷ s

pub keep_nil : (x : Bytes) → keep_all [] x ≡ x
keep_nil [] = refl
keep_nil (a ∷ x) = refl

keep_cons : (b : ℕ) (w x : Bytes) → keep b (keep_all w x) ≡ keep_all (b ∷ w) x
keep_cons b w [] = refl
keep_cons b [] (a ∷ x) = refl
keep_cons b (c ∷ w) (a ∷ x) = refl

pub keep_append : (u w x : Bytes) → keep_all u (keep_all w x) ≡ keep_all (u ++ w) x
keep_append u w [] = refl
keep_append u [] (a ∷ x) = rw append-nil
keep_append u (c ∷ w) (a ∷ x) = sym (append_assoc u (c ∷ w) (a ∷ x))

end_skip : (n : ℕ) (s : Bytes) → end_from n s ≡ keep_all (take n s) (end_from 0 (drop n s))
unfolding end_from
end_skip zero s = sym (keep_nil (end_from 0 s))
end_skip (suc n) [] = refl
end_skip (suc n) (b ∷ s) = rw (end_skip n s) (keep_cons b (take n s) (end_from 0 (drop n s)))

pub end_space : (s : Bytes) → (space s ≡ 0 → ⊥) → end_from 0 s ≡ keep_all (take (space s) s) (end_from 0 (drop (space s) s))
unfolding space front_of begins end_from
end_space [] h = absurd (h refl)
end_space (b ∷ s) h = go (space (b ∷ s)) refl
  where
    go : (n : ℕ) → space (b ∷ s) ≡ n → end_from 0 (b ∷ s) ≡ keep_all (take n (b ∷ s)) (end_from 0 (drop n (b ∷ s)))
    go zero e = absurd (h e)
    go (suc n) e = rw (end_from, e, end_skip n s) (keep_cons b (take n s) (end_from 0 (drop n s)))

pub end_plain : (b : ℕ) (s : Bytes) → space (b ∷ s) ≡ 0 → end_from 0 (b ∷ s) ≡ b ∷ end_from 0 s
unfolding end_from
end_plain b s e = rw (end_from, e)

-- ---- where there is none

none_here : (x y : Bool) → not x || y ≡ false → (x ≡ true) × (y ≡ false)
none_here true y e = (refl, e)
none_here false y e = let z : ◌≡◌ {A = ℕ} 0 1 = cc in absurd (omega arith)

start_none : (s : Bytes) → has_space s ≡ false → start_from 0 s ≡ s
unfolding has_space start_from
start_none [] h = refl
start_none (b ∷ s) h = start_plain (b ∷ s) (eqb-true _ _ (none_here (eqb (space (b ∷ s)) 0) (has_space s) h).0)

end_none : (s : Bytes) → has_space s ≡ false → end_from 0 s ≡ s
unfolding has_space end_from
end_none [] h = refl
end_none (b ∷ s) h =
    let r = none_here (eqb (space (b ∷ s)) 0) (has_space s) h in
    end_plain b s (eqb-true _ _ r.0) ∙ ap {B = Bytes} (λ x. b ∷ x) (end_none s r.1)

pub trim_none : (s : Bytes) → has_space s ≡ false → trim s ≡ s
unfolding trim
trim_none s h = ap (end_from 0) (start_none s h) ∙ end_none s h
