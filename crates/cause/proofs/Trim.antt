-- What the loops that trim use.
use mathlib.Core.Path.{◌≡◌, sym, ap, ◌∙◌}
use mathlib.Core.List.{[], ◌∷◌, ◌++◌, append_assoc, append-nil}
use Prim.Native.Nat.{ℕ, suc, ◌+◌, ◌-◌, ◌≤◌, ◌<◌}
use native.Mathlib.Numerals.{add-one}
use native.Mathlib.Omega.{arith}
use lib.ListN.{length, get_or, take, drop, drop_of_length-le, take-append-drop, length-drop}
use lib.Seq.{drop-cons, drop-drop, take-add, take-suc, take-take, drop-append-le, length-take-le, slice_empty, slice}
use Rattle.octets.specs.Bytes.{Bytes}
use Rattle.octets.specs.PartLaws.{part_rest}
use Rattle.definition.specs.White.{space, start_from, end_from}
use Rattle.definition.proofs.Laws.Text.White.{space_le, start_space, keep_all, keep_nil, keep_append, end_space, end_plain}

-- s up to `end`, and what stays of the white space from there to i and of the rest
abbrev pub up_to : Bytes → ℕ → ℕ → Bytes
up_to s end i = take end s ++ keep_all (slice end i s) (end_from 0 (drop i s))

pub up_none : (s : Bytes) → end_from 0 s ≡ up_to s 0 0
up_none s = sym (keep_nil (end_from 0 s))

module _ (s : Bytes) (end i : ℕ) (h : end ≤ i) (k : i ≤ length s) where
  pub up_space : (space (drop i s) ≡ 0 → ⊥) → i + space (drop i s) ≤ length s → up_to s end i ≡ up_to s end (i + space (drop i s))
  up_space e l =
      let n : ℕ = space (drop i s) in
      let z = length-take-le i s k in
      ap (λ (x : Bytes). take end s ++ x)
      (ap (λ (x : Bytes). keep_all (slice end i s) x) (end_space (drop i s) e)
      ∙ keep_append (slice end i s) (take n (drop i s)) (end_from 0 (drop n (drop i s)))
      ∙ ap (λ (x : Bytes). keep_all x (end_from 0 (drop n (drop i s))))
      (sym (ap (λ (x : Bytes). drop end x) (take-add i n s) ∙ drop-append-le end (take i s) (take n (drop i s)) (omega arith)))
      ∙ ap (λ (x : Bytes). keep_all (slice end (i + n) s) (end_from 0 x)) (drop-drop n i s))

  pub up_plain : i < length s → space (drop i s) ≡ 0 → up_to s end i ≡ up_to s (i + 1) (i + 1)
  up_plain l e =
      let b : ℕ = get_or s i 0 in
      let rest : Bytes = end_from 0 (drop (suc i) s) in
      ap (λ (x : Bytes). take end s ++ keep_all (slice end i s) x)
      (ap (λ (x : Bytes). end_from 0 x) (drop-cons s i 0 l) ∙ end_plain b (drop (suc i) s) (rw (drop-cons s i 0 l) at e))
      ∙ sym (append_assoc (take end s) (slice end i s) (b ∷ rest))
      ∙ ap (λ (x : Bytes). x ++ (b ∷ rest))
      (ap (λ (x : Bytes). x ++ slice end i s) (sym (take-take end i s h)) ∙ take-append-drop end (take i s))
      ∙ sym (append_assoc (take i s) (b ∷ []) rest)
      ∙ ap (λ (x : Bytes). x ++ rest) (sym (take-suc s i 0 l))
      ∙ sym (rw (add-one, slice_empty) (ap (λ (x : Bytes). take (suc i) s ++ x) (keep_nil rest)))

pub up_end : (s : Bytes) (end i : ℕ) → length s ≤ i → up_to s end i ≡ take end s
unfolding end_from
up_end s end i h = rw (drop_of_length-le s h) (append-nil (take end s))

-- ---- what the loops use: n is what `space_len` says of the part from i on

pub space_part : (s : Bytes) (i n : ℕ) → i ≤ length s → n ≡ space (take (length s - i) (drop i s)) → (n ≡ space (drop i s)) × (i + n ≤ length s)
space_part s i n h e =
    let f : n ≡ space (drop i s) = e ∙ ap space (part_rest s i) in
    (f, omega (arith, f, space_le (drop i s), length-drop i s))

module _ (s : Bytes) (i n : ℕ) (e : n ≡ space (drop i s)) (h : n ≡ 0 → ⊥) where
  pub start_step : start_from 0 (drop (i + n) s) ≡ start_from 0 (drop i s)
  start_step = ap (λ (x : Bytes). start_from 0 x) (sym (drop-drop n i s)) ∙ rw e (sym (start_space (drop i s) (λ z. h (e ∙ z))))

  pub end_step : (end : ℕ) → end ≤ i → i + n ≤ length s → up_to s end i ≡ up_to s end (i + n)
  end_step end k l = rw e (up_space s end i k (omega arith) (λ z. h (e ∙ z)) (rw e at l))

pub start_end : (s : Bytes) (i : ℕ) → length s ≤ i → start_from 0 (drop i s) ≡ drop i s
unfolding start_from
start_end s i h = rw (drop_of_length-le s h)
