-- Laws of bytes replaced in part: splices beside, behind and after one another, and what loops and lent parts leave.
use Rattle.std.specs.Prelude.{◌≡◌, [], ◌∷◌, ◌++◌, ℕ, suc, ◌+◌, ◌-◌, ◌≤◌, ◌<◌, take, get_or, set}
use Rattle.std.proofs.Math.Path.{refl, ap}
use Rattle.std.proofs.Common.{sym, ◌∙◌, append_assoc, append-nil, add_assoc, add-zero, zero-add, add-one, arith, length-append, length-take, length-drop, take-append-drop, drop_at, drop-drop, length-take-le, take-suc, take-suc-set}
use Rattle.std.proofs.Math.ListN.{length, drop}
use Rattle.std.proofs.Math.Seq.{take_at, take-append-add, drop-append-add, drop-length}
use Rattle.std.proofs.lemmas.List.{take-append-le, drop-append-le, set_split}
use Rattle.octets.specs.Bytes.{Bytes, splice}

pub length_splice : (b : Bytes) (k : ℕ) (v : Bytes) → k + length v ≤ length b → length (splice b k v) ≡ length b
unfolding splice
length_splice b k v h = simp (length-append, length-drop, length-take) (omega arith)

-- no byte is replaced
pub splice_none : (b : Bytes) (k : ℕ) → splice b k [] ≡ b
unfolding splice
splice_none b k = ap (λ (m : ℕ). take k b ++ drop m b) (add-zero k) ∙ take-append-drop k b

-- all bytes are replaced
pub splice_whole : (b v : Bytes) → length v ≡ length b → splice b 0 v ≡ v
unfolding splice
splice_whole b v h = rw (h, zero-add, drop-length, append-nil)

-- a splice past a front part
pub splice_append : (a b : Bytes) (k : ℕ) (v : Bytes) → splice (a ++ b) (length a + k) v ≡ a ++ splice b k v
unfolding splice
splice_append a b k v = simp (add_assoc, take-append-add, drop-append-add, append_assoc)

-- a splice within a front part
pub splice_front : (a b : Bytes) (k : ℕ) (v : Bytes) → k + length v ≤ length a → splice (a ++ b) k v ≡ splice a k v ++ b
unfolding splice
splice_front a b k v h =
    let h1 : k ≤ length a = omega arith in
    simp (take-append-le k a b h1, drop-append-le (k + length v) a b h, append_assoc)

-- ---- what stands before, in and behind the spliced bytes

module _ (b : Bytes) (k : ℕ) (v : Bytes) (h : k + length v ≤ length b) where
  front_length : length (take k b) ≡ k
  front_length = length-take-le k b (omega arith)

  pub part_splice : take (length v) (drop k (splice b k v)) ≡ v
  unfolding splice
  part_splice =
      ap (take (length v)) (drop_at (take k b) (v ++ drop (k + length v) b) k front_length)
      ∙ take_at v (drop (k + length v) b) (length v) refl

-- ---- one splice after the other

-- the second behind the first
pub splice_two : (b : Bytes) (k l : ℕ) (u v : Bytes) → length u ≡ l → k + l + length v ≤ length b → splice (splice b k u) (k + l) v ≡ splice b k (u ++ v)
unfolding splice
splice_two b k l u v hl h =
    let lk : length (take k b) ≡ k = length-take-le k b (omega arith) in
    let lu : length (take k b ++ u) ≡ k + l = rw (length-append, lk, hl) in
    let kl : k + length u ≡ k + l = ap (λ (m : ℕ). k + m) hl in
    let e : take k b ++ (u ++ drop (k + length u) b) ≡ (take k b ++ u) ++ drop (k + l) b =
    ap (λ (m : ℕ). take k b ++ (u ++ drop m b)) kl ∙ sym (append_assoc (take k b) u (drop (k + l) b)) in
    let t : take (k + l) ((take k b ++ u) ++ drop (k + l) b) ≡ take k b ++ u = take_at (take k b ++ u) (drop (k + l) b) (k + l) lu in
    let d : drop (k + l + length v) ((take k b ++ u) ++ drop (k + l) b) ≡ drop (k + length (u ++ v)) b =
    ap (λ (m : ℕ). drop (m + length v) ((take k b ++ u) ++ drop (k + l) b)) (sym lu)
    ∙ drop-append-add (take k b ++ u) (drop (k + l) b) (length v)
    ∙ drop-drop (length v) (k + l) b
    ∙ rw (length-append, hl, ← add_assoc) in
    rw (e, t, d, append_assoc (take k b) u, append_assoc u v)

-- a splice after what gave b
pub after : (b c d : Bytes) (k : ℕ) (v : Bytes) → d ≡ splice c k v → c ≡ b → d ≡ splice b k v
after b c d k v p q = rw (← q) p

pub after_two : (b c d : Bytes) (k : ℕ) (v : Bytes) (k' : ℕ) (v' : Bytes) → d ≡ splice (splice c k v) k' v' → c ≡ b → d ≡ splice (splice b k v) k' v'
after_two b c d k v k' v' p q = rw (← q) p

-- a byte and what stands behind it
pub marked_splices : (b x z v : Bytes) (at k : ℕ) → at + 1 + length v ≤ length b → x ≡ splice b at (k ∷ []) → z ≡ splice x (at + 1) v → z ≡ splice b at (k ∷ v)
marked_splices b x z v at k h ex ez = ez ∙ ap (λ (t : Bytes). splice t (at + 1) v) ex ∙ splice_two b at 1 (k ∷ []) v refl h

-- ---- a store, and the step of a loop that stores

pub set_splice : (b : Bytes) (k v : ℕ) → k < length b → set b k v ≡ splice b k (v ∷ [])
unfolding splice
set_splice b k v h =
    let e : suc k ≡ k + 1 = omega arith in
    set_split b k v h ∙ ap (λ (m : ℕ). take k b ++ (v ∷ drop m b)) e

-- one more byte of a copy
pub copy_step : (d s : Bytes) (i : ℕ) → i < length d → i < length s → take i d ≡ take i s → take (i + 1) (set d i (get_or s i 0)) ≡ take (i + 1) s
copy_step d s i h l q = rw (add-one, take-suc-set, take-suc s i 0, q)

-- ---- parts that were lent

-- the length of a part
pub lent_length : (b : Bytes) (k n : ℕ) → k + n ≤ length b → length (take (k + n - k) (drop k b)) ≡ n
lent_length b k n h = omega (arith, length-take (k + n - k) (drop k b), length-drop k b)

-- what stands in a slice once a part of it has come back at v
pub back : (b : Bytes) (k e : ℕ) (w v : Bytes) → w ≡ v → length v ≡ e - k → take k b ++ (w ++ drop (e - k) (drop k b)) ≡ splice b k v
unfolding splice
back b k e w v q h = rw (q, drop-drop, h)

-- the same, where what came back is made for the part's length
pub back_made :
    (b : Bytes) (k n : ℕ) (w : Bytes) (f : ℕ → Bytes) → ((m : ℕ) → length (f m) ≡ m) → k + n ≤ length b →
    w ≡ f (length (take (k + n - k) (drop k b))) → take k b ++ (w ++ drop (k + n - k) (drop k b)) ≡ splice b k (f n)
back_made b k n w f l h q = back b k (k + n) w (f n) (q ∙ ap f (lent_length b k n h)) (omega (arith, l n))
