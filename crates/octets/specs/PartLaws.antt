-- Parts of a list of bytes, and parts of parts.
use Rattle.std.specs.Prelude.{◌≡◌, [], ◌∷◌, ℕ, zero, suc, ◌+◌, ◌-◌, ◌≤◌, length, take, drop}
use Rattle.std.proofs.Common.{sym, ap, ◌∙◌, zero-add, suc-add, arith, length-drop, take-take, drop-drop, length-take-le, take_all}
use Rattle.std.proofs.Math.Seq.{take-nil}
use Rattle.octets.specs.Bytes.{Bytes}

-- from a place to the end
pub part_rest : (s : Bytes) (i : ℕ) → take (length s - i) (drop i s) ≡ drop i s
part_rest s i = take_all (length s - i) (drop i s) (omega (arith, length-drop i s))

pub part_length : (p : Bytes) (at n : ℕ) → at + n ≤ length p → length (take n (drop at p)) ≡ n
part_length p at n h = length-take-le n (drop at p) (omega (arith, length-drop at p))

drop_take : (k n : ℕ) (l : Bytes) → drop k (take (k + n) l) ≡ take n (drop k l)
drop_take zero n l = ap (λ (k : ℕ). take k l) (zero-add n)
drop_take (suc k) n [] = rw (suc-add k n) (sym (take-nil n))
drop_take (suc k) n (x ∷ l) = rw (suc-add k n) (drop_take k n l)

-- what is left of a part
pub part_drop : (p : Bytes) (at k n : ℕ) → drop k (take (k + n) (drop at p)) ≡ take n (drop (at + k) p)
part_drop p at k n = drop_take k n (drop at p) ∙ ap (take n) (drop-drop k at p)

-- a part's beginning
pub part_front : (p : Bytes) (at m n : ℕ) → m ≤ n → take m (take n (drop at p)) ≡ take m (drop at p)
part_front p at m n h = take-take m n (drop at p) h

-- a part of a part
pub part_part : (p : Bytes) (at k n w : ℕ) → k + n ≤ w → take n (drop k (take w (drop at p))) ≡ take n (drop (at + k) p)
part_part p at k n w h =
    let e : w ≡ k + (w - k) = omega arith in
    ap (λ (m : ℕ). take n (drop k (take m (drop at p)))) e ∙ ap (take n) (part_drop p at k (w - k)) ∙ part_front p (at + k) n (w - k) (omega arith)
