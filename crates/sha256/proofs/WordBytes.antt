-- The bytes of a list of words, which a loop writes one word after another.
use Rattle.std.proofs.Common.{◌≡◌, ℕ, ◌+◌, ◌*◌, ◌<◌, ◌≤◌, List, [], ◌∷◌, ◌++◌, length, get_or, take, drop, sym, ap, ◌∙◌, ap₂, append_assoc, append-nil, add-one, arith, length-append, length-take-le, take-suc, take_at}
use Rattle.octets.specs.Bytes.{Bytes, be32, splice}
use Rattle.octets.specs.NumberLaws.{length_be32}
use Rattle.octets.specs.SpliceLaws.{length_splice}

unfoldable pub word_bytes : List ℕ → Bytes
word_bytes [] = []
word_bytes (x ∷ w) = be32 x ++ word_bytes w

word_bytes_more : (w : List ℕ) (x : ℕ) → word_bytes (w ++ (x ∷ [])) ≡ word_bytes w ++ be32 x
unfolding word_bytes
word_bytes_more [] x = append-nil (be32 x)
word_bytes_more (y ∷ w) x = rw (word_bytes_more w x) (sym (append_assoc (be32 y) (word_bytes w) (be32 x)))

-- the front, and the bytes put behind it
front_put : (b : Bytes) (k : ℕ) (v : Bytes) → k + length v ≤ length b → take (k + length v) (splice b k v) ≡ take k b ++ v
unfolding splice
front_put b k v h =
    rw (← append_assoc (take k b) v (drop (k + length v) b))
    (take_at (take k b ++ v) (drop (k + length v) b) (k + length v) (rw (length-append, length-take-le k b (omega arith))))

-- one word more
pub put_more : (w : List ℕ) (d : Bytes) (i : ℕ) {e : Bytes} → i < length w → 4 * i + 4 ≤ length d → e ≡ splice d (4 * i) (be32 (get_or w i 0))
    → take (4 * i) d ≡ word_bytes (take i w) → (length e ≡ length d) × (take (4 * (i + 1)) e ≡ word_bytes (take (i + 1) w))
put_more w d i h l p q =
    let x = get_or w i 0 in
    let f : 4 * i + length (be32 x) ≤ length d = omega (arith, length_be32 x) in
    let n : 4 * (i + 1) ≡ 4 * i + length (be32 x) = omega (arith, length_be32 x) in
    let m : take (i + 1) w ≡ take i w ++ (x ∷ []) = rw (add-one, take-suc w i 0 h) in (
      ap length p ∙ length_splice d (4 * i) (be32 x) f,
      ap₂ take n p ∙ front_put d (4 * i) (be32 x) f ∙ ap (λ (b : Bytes). b ++ be32 x) q ∙ sym (ap word_bytes m ∙ word_bytes_more (take i w) x),
    )
