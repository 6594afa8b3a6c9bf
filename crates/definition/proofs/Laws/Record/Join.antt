-- Slots one after the other: how to read one, how to replace one, and when all are the same. Each law is over the list of widths. For payloads
-- and objects, and for the code of `build`, `record` and `record_check`.
use Rattle.std.specs.Prelude.{◌≡◌, refl, Bool, true, false, ◌&&◌, List, [], ◌∷◌, ◌++◌, ℕ, zero, suc, ◌+◌, ◌≤◌, ◌<◌, T, length, take, drop, get_or, set}
use Rattle.std.proofs.Common.{sym, ap, ap₂, ◌∙◌, append_assoc, add_assoc, arith, length-append, length-take, length-drop, take-append-drop, drop_of_length-le, take_at, drop_at, drop-drop}
use Rattle.std.proofs.Math.Seq.{drop-append-add, take-append-add}
use Rattle.octets.specs.Bytes.{Bytes, same, splice}
use Rattle.octets.specs.BoolLaws.{and_true, and_assoc, and_comm, both_left, both_right}
use Rattle.octets.specs.SameLaws.{same_append}
use Rattle.octets.specs.SpliceLaws.{length_splice, splice_none, splice_two}
use Rattle.definition.specs.Slot.{join, cut, total_width, all_of}

-- the parts have the widths
abbrev pub Fits : List ℕ → List Bytes → Type 0
Fits [] [] = Unit
Fits [] (p ∷ ps) = ⊥
Fits (w ∷ ws) [] = ⊥
Fits (w ∷ ws) (p ∷ ps) = (length p ≡ w) × Fits ws ps

-- a part, and those behind it
infixr 20 ◌then◌
abbrev pub ◌then◌ : {A B : Type 0} → A → B → A × B
◌then◌ a b = (a, b)

pub length_join : (ws : List ℕ) (ps : List Bytes) → Fits ws ps → length (join ps) ≡ total_width ws
unfolding join
length_join [] [] f = refl
length_join [] (p ∷ ps) f = absurd f
length_join (w ∷ ws) [] f = absurd f
length_join (w ∷ ws) (p ∷ ps) f = rw (length-append, f.0, length_join ws ps f.1)

-- ---- read

cut_from : (x : Bytes) (ws : List ℕ) (ps : List Bytes) → Fits ws ps → cut (length x) ws (x ++ join ps) ≡ ps
unfolding join cut
cut_from x [] [] f = refl
cut_from x [] (p ∷ ps) f = absurd f
cut_from x (w ∷ ws) [] f = absurd f
cut_from x (w ∷ ws) (p ∷ ps) f =
    let h : length (x ++ p) ≡ length x + w = rw (length-append, f.0) in
    ap₂ ◌∷◌
    (ap (take w) (drop_at x (p ++ join ps) (length x) refl) ∙ take_at p (join ps) w f.0)
    (ap₂ (λ (k : ℕ) (b : Bytes). cut k ws b) (sym h) (sym (append_assoc x p (join ps))) ∙ cut_from (x ++ p) ws ps f.1)

-- the parts are read back
pub cut_join : (ws : List ℕ) (ps : List Bytes) → Fits ws ps → cut 0 ws (join ps) ≡ ps
cut_join ws ps f = cut_from [] ws ps f

pub join_append : (ps qs : List Bytes) → join (ps ++ qs) ≡ join ps ++ join qs
unfolding join
join_append [] qs = refl
join_append (p ∷ ps) qs = rw (join_append ps qs) (sym (append_assoc p (join ps) (join qs)))

fits_take : (i : ℕ) (ws : List ℕ) (ps : List Bytes) → Fits ws ps → Fits (take i ws) (take i ps)
fits_take zero ws ps f = tt
fits_take (suc i) [] [] f = tt
fits_take (suc i) [] (p ∷ ps) f = absurd f
fits_take (suc i) (w ∷ ws) [] f = absurd f
fits_take (suc i) (w ∷ ws) (p ∷ ps) f = (f.0, fits_take i ws ps f.1)

fits_drop : (i : ℕ) (ws : List ℕ) (ps : List Bytes) → Fits ws ps → Fits (drop i ws) (drop i ps)
fits_drop zero ws ps f = f
fits_drop (suc i) [] [] f = tt
fits_drop (suc i) [] (p ∷ ps) f = absurd f
fits_drop (suc i) (w ∷ ws) [] f = absurd f
fits_drop (suc i) (w ∷ ws) (p ∷ ps) f = fits_drop i ws ps f.1

-- n parts from part i on
pub part_join : (i n : ℕ) (ws : List ℕ) (ps : List Bytes) → Fits ws ps → take (total_width (take n (drop i ws))) (drop (total_width (take i ws)) (join ps)) ≡ join (take n (drop i ps))
part_join i n ws ps f =
    let g = fits_drop i ws ps f in
    let front : join ps ≡ join (take i ps) ++ join (drop i ps) = sym (ap join (take-append-drop i ps)) ∙ join_append (take i ps) (drop i ps) in
    let body : join (drop i ps) ≡ join (take n (drop i ps)) ++ join (drop n (drop i ps)) =
    sym (ap join (take-append-drop n (drop i ps))) ∙ join_append (take n (drop i ps)) (drop n (drop i ps)) in
    rw (front, drop_at (join (take i ps)) (join (drop i ps)) (total_width (take i ws)) (length_join (take i ws) (take i ps) (fits_take i ws ps f)), body)
    (take_at (join (take n (drop i ps))) (join (drop n (drop i ps))) (total_width (take n (drop i ws))) (length_join (take n (drop i ws)) (take n (drop i ps)) (fits_take n (drop i ws) (drop i ps) g)))

-- ---- compared

-- part against part
abbrev pub matches : List Bytes → List Bytes → List Bool
matches [] qs = []
matches (p ∷ ps) [] = false ∷ []
matches (p ∷ ps) (q ∷ qs) = same p q ∷ matches ps qs

-- the whole is the same where each part is
pub same_join : (at : ℕ) (ws : List ℕ) (ps : List Bytes) (b : Bytes) → Fits ws ps → length b ≡ at + total_width ws → same (join ps) (drop at b) ≡ all_of (matches ps (cut at ws b))
unfolding join cut same
same_join at [] [] b f h = rw (drop_of_length-le b {i = at} (omega arith))
same_join at [] (p ∷ ps) b f h = absurd f
same_join at (w ∷ ws) [] b f h = absurd f
same_join at (w ∷ ws) (p ∷ ps) b f h =
    let e : drop at b ≡ take w (drop at b) ++ drop (at + w) b = sym (take-append-drop w (drop at b)) ∙ ap (λ (t : Bytes). take w (drop at b) ++ t) (drop-drop w at b) in
    let l : length p ≡ length (take w (drop at b)) = f.0 ∙ (rw (length-take, length-drop, h) (omega arith)) in
    ap (same (p ++ join ps)) e ∙ same_append p (take w (drop at b)) (join ps) (drop (at + w) b) l
    ∙ ap (λ (t : Bool). same p (take w (drop at b)) && t) (same_join (at + w) ws ps b f.1 (h ∙ sym (add_assoc at w (total_width ws))))

-- ---- replaced

-- where part i starts
abbrev pub offset : List ℕ → ℕ → ℕ
offset [] i = 0
offset (w ∷ ws) zero = 0
offset (w ∷ ws) (suc i) = w + offset ws i

pub splice_join : (ws : List ℕ) (ps : List Bytes) (i : ℕ) (v : Bytes) → Fits ws ps → i < length ps → length v ≡ get_or ws i 0 → splice (join ps) (offset ws i) v ≡ join (set ps i v)
unfolding splice join
splice_join [] [] i v f l h = absurd (omega arith)
splice_join [] (p ∷ ps) i v f l h = absurd f
splice_join (w ∷ ws) [] i v f l h = absurd f
splice_join (w ∷ ws) (p ∷ ps) zero v f l h = ap (λ (t : Bytes). v ++ t) (drop_at p (join ps) (0 + length v) (omega (arith, f.0)))
splice_join (w ∷ ws) (p ∷ ps) (suc i) v f l h =
    let k = offset ws i in
    let e : w + k ≡ length p + k = omega (arith, f.0) in
    let e2 : w + k + length v ≡ length p + (k + length v) = omega (arith, f.0) in
    rw (e2, e, take-append-add p (join ps) k, drop-append-add p (join ps) (k + length v), append_assoc)
    (ap (λ (t : Bytes). p ++ t) (splice_join ws ps i v f.1 (omega arith) h))

-- parts written one after the other, from a place on
unfoldable pub laid : ℕ → List ℕ → List Bytes → Bytes → Bytes
laid at [] ps b = b
laid at (w ∷ ws) [] b = b
laid at (w ∷ ws) (p ∷ ps) b = laid (at + w) ws ps (splice b at p)

pub laid_join : (at : ℕ) (ws : List ℕ) (ps : List Bytes) (b : Bytes) → Fits ws ps → at + total_width ws ≤ length b → laid at ws ps b ≡ splice b at (join ps)
unfolding laid join
laid_join at [] [] b f h = sym (splice_none b at)
laid_join at [] (p ∷ ps) b f h = absurd f
laid_join at (w ∷ ws) [] b f h = absurd f
laid_join at (w ∷ ws) (p ∷ ps) b f h =
    let l = f.0 in
    let lj = length_join ws ps f.1 in
    let ls : length (splice b at p) ≡ length b = length_splice b at p (omega arith) in
    laid_join (at + w) ws ps (splice b at p) f.1 (omega arith) ∙ splice_two b at w p (join ps) l (omega arith)

-- ---- tests of the parts

-- both of each pair
abbrev pub zipped : List Bool → List Bool → List Bool
zipped [] ys = ys
zipped (x ∷ xs) [] = x ∷ xs
zipped (x ∷ xs) (y ∷ ys) = (x && y) ∷ zipped xs ys

swap : (x y z t : Bool) → (x && z) && (y && t) ≡ (x && y) && (z && t)
swap true y z t = (sym (and_assoc z y t) ∙ ap (λ (u : Bool). u && t) (and_comm z y)) ∙ and_assoc y z t
swap false y z t = refl

pub all_zipped : (xs ys : List Bool) → all_of xs && all_of ys ≡ all_of (zipped xs ys)
all_zipped [] ys = refl
all_zipped (x ∷ xs) [] = and_comm (x && all_of xs) true
all_zipped (x ∷ xs) (y ∷ ys) = swap x y (all_of xs) (all_of ys) ∙ ap (λ (u : Bool). (x && y) && u) (all_zipped xs ys)

-- one test of several
pub test_at : (xs : List Bool) (i : ℕ) → T (all_of xs) → T (get_or xs i true)
test_at [] zero t = tt
test_at [] (suc i) t = tt
test_at (x ∷ xs) zero t = both_left x (all_of xs) t
test_at (x ∷ xs) (suc i) t = test_at xs i (both_right x (all_of xs) t)

-- tests joined from the left
abbrev pub joined : Bool → List Bool → Bool
joined x [] = x
joined x (y ∷ ys) = joined (x && y) ys

pub joined_all : (x : Bool) (ys : List Bool) → joined x ys ≡ all_of (x ∷ ys)
joined_all x [] = sym (and_true x)
joined_all x (y ∷ ys) = joined_all (x && y) ys ∙ and_assoc x y (all_of ys)
