-- Laws of the definition at n + 1: one word, round or block more.
use Rattle.std.specs.Prelude.{◌≡◌, List, [], ◌∷◌, ◌++◌, ℕ, suc, ◌+◌, ◌-◌, ◌*◌, ◌≤◌, ◌<◌, length, get_or, take, set}
use Rattle.std.proofs.Common.{sym, ap, ap₂, ◌∙◌, add-one, arith, take-suc-set, get_or-take}
use Rattle.octets.specs.Bytes.{Bytes, at32}
use Rattle.fips180.specs.Sha256.{Hash, constants, words_of, next_word, schedule_of, round_of, rounds_of, block_of, blocks_of}

-- one element more at the front of a list
take_more : (w : List ℕ) (i x : ℕ) {l : List ℕ} → i < length w → take i w ≡ l → take (i + 1) (set w i x) ≡ l ++ (x ∷ [])
take_more w i x h q = rw (add-one, take-suc-set w i x h) (ap (λ (l : List ℕ). l ++ (x ∷ [])) q)

-- one word more of a block
pub words_more : (p : Bytes) (at : ℕ) (w : List ℕ) (i : ℕ) {x : ℕ} → i < length w → x ≡ at32 p (at + 4 * i) → take i w ≡ words_of p at i
    → take (i + 1) (set w i x) ≡ words_of p at (i + 1)
unfolding words_of
words_more p at w i {x} h e q =
    take_more w i x h q ∙ ap (λ (y : ℕ). words_of p at i ++ (y ∷ [])) e ∙ ap (words_of p at) (sym (add-one i))

-- the next word reads only the words before it
next_below : (w : List ℕ) (t : ℕ) → 16 ≤ t → next_word (take t w) t ≡ next_word w t
unfolding next_word
next_below w t h =
    rw (get_or-take t w (t - 2) 0 (omega arith), get_or-take t w (t - 7) 0 (omega arith), get_or-take t w (t - 15) 0 (omega arith), get_or-take t w (t - 16) 0 (omega arith))

-- one word more of the schedule
pub schedule_more : (m w : List ℕ) (t : ℕ) {x : ℕ} → 16 ≤ t → t < length w → x ≡ next_word w t → take t w ≡ schedule_of m (t - 16)
    → take (t + 1) (set w t x) ≡ schedule_of m (t + 1 - 16)
unfolding schedule_of
schedule_more m w t {x} a h e q =
    let k : 16 + (t - 16) ≡ t = omega arith in
    let j : t + 1 - 16 ≡ suc (t - 16) = omega arith in
    let n : x ≡ next_word (schedule_of m (t - 16)) (16 + (t - 16)) = e ∙ sym (next_below w t a) ∙ ap₂ next_word q (sym k) in
    take_more w t x h q ∙ ap (λ (y : ℕ). schedule_of m (t - 16) ++ (y ∷ [])) n ∙ ap (schedule_of m) (sym j)

-- one round more
pub rounds_more : (w : List ℕ) (s : Hash) (t : ℕ) {v r : Hash} → r ≡ round_of v (get_or constants t 0) (get_or w t 0) → v ≡ rounds_of w s t
    → r ≡ rounds_of w s (t + 1)
unfolding rounds_of
rounds_more w s t p q = rw add-one (p ∙ ap (λ (x : Hash). round_of x (get_or constants t 0) (get_or w t 0)) q)

-- one block more
pub blocks_more : (p : Bytes) (i : ℕ) {s r : Hash} → r ≡ block_of s p (64 * i) → s ≡ blocks_of p i → r ≡ blocks_of p (i + 1)
unfolding blocks_of
blocks_more p i e q = rw add-one (e ∙ ap (λ (x : Hash). block_of x p (64 * i)) q)
