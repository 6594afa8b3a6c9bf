-- Laws of parts of one width, one after the other.
use Rattle.std.specs.Prelude.{◌≡◌, drop}
use Rattle.std.proofs.Math.Path.{refl, sym, ap, ap₂}
use Rattle.std.proofs.Common.{◌∙◌, not-suc-le-zero, zero-add, eq-eqb, ne_eqb, length-append, drop-drop}
use mathlib.Core.List.{[], ◌∷◌, ◌++◌}
use Prim.Native.Nat.{ℕ, zero, suc, ◌+◌, ◌*◌, ◌≤◌, ◌<◌}
use Rattle.std.proofs.Math.Decide.{ℕ_discrete}
use Rattle.std.proofs.Math.Nat.{mul-suc, mul-zero, add_comm}
use native.Mathlib.Omega.{arith}
use Rattle.std.proofs.Math.Dec.{eqb-suc-suc}
use Rattle.std.proofs.Math.ListN.{length, take, length-drop, take-append-drop}
use Rattle.std.proofs.Math.Seq.{drop-append-add}
use Rattle.std.proofs.lemmas.List.{drop-append-le, take-append-le}
use Rattle.octets.specs.Bytes.{Bytes, splice, value, number_at, at32}
use Rattle.octets.specs.Pack.{pack, upd}
use Rattle.octets.specs.SpliceLaws.{splice_append, splice_front}

pub upd_same : (f : ℕ → Bytes) (i : ℕ) (v : Bytes) → upd f i v i ≡ v
unfolding upd
upd_same f i v = rw (eq-eqb i i refl)

pub upd_other : (f : ℕ → Bytes) (i j : ℕ) (v : Bytes) → (j ≡ i → ⊥) → upd f i v j ≡ f j
unfolding upd
upd_other f i j v h = rw (ne_eqb j i h)

pub pack_ext : (n : ℕ) (f g : ℕ → Bytes) → ((j : ℕ) → j < n → f j ≡ g j) → pack n f ≡ pack n g
unfolding pack
pack_ext zero f g h = refl
pack_ext (suc n) f g h =
    ap₂ ◌++◌ (h 0 (omega arith)) (pack_ext n (λ j. f (suc j)) (λ j. g (suc j)) (λ j l. h (suc j) (omega arith)))

shift : (f : ℕ → Bytes) (i j : ℕ) (v : Bytes) → upd (λ t. f (suc t)) i v j ≡ upd f (suc i) v (suc j)
unfolding upd
shift f i j v = rw (eqb-suc-suc j i)

-- parts keep their lengths
pub length_upd : (f : ℕ → Bytes) (i w : ℕ) (v : Bytes) → ((j : ℕ) → length (f j) ≡ w) → length v ≡ w → (j : ℕ) → length (upd f i v j) ≡ w
length_upd f i w v h l j =
    elim (ℕ_discrete j i) [
      | yes p ↦ rw (p, upd_same f i v) l
      | no n ↦ rw (upd_other f i j v n) (h j)
    ]

module _ (w : ℕ) where
  pub length_pack : (n : ℕ) (f : ℕ → Bytes) → ((j : ℕ) → length (f j) ≡ w) → length (pack n f) ≡ w * n
  unfolding pack
  length_pack zero f h = sym (mul-zero w)
  length_pack (suc n) f h =
      rw (length-append, h 0, length_pack n (λ j. f (suc j)) (λ j. h (suc j)), mul-suc) (omega arith)

  -- a splice within part i changes only part i
  pub splice_pack :
      (n i : ℕ) (f : ℕ → Bytes) (k : ℕ) (v : Bytes) → ((j : ℕ) → length (f j) ≡ w) → i < n → k + length v ≤ w →
      splice (pack n f) (w * i + k) v ≡ pack n (upd f i (splice (f i) k v))
  unfolding pack
  splice_pack zero i f k v h l m = absurd (not-suc-le-zero l)
  splice_pack (suc n) zero f k v h l m =
      let e : w * 0 + k ≡ k = rw mul-zero (zero-add k) in
      let p : k + length v ≤ length (f 0) = rw (h 0) m in
      rw (e, splice_front (f 0) _ k v p, upd_same f 0)
      (ap (λ (r : Bytes). splice (f 0) k v ++ r)
      (pack_ext n (λ j. f (suc j)) (λ j. upd f 0 (splice (f 0) k v) (suc j))
      (λ j _. sym (upd_other f 0 (suc j) _ (omega arith)))))
  splice_pack (suc n) (suc i) f k v h l m =
      let e : w * suc i + k ≡ length (f 0) + (w * i + k) = rw (h 0, mul-suc) (omega arith) in
      let l' : i < n = omega arith in
      rw (
        e,
        splice_append,
        upd_other f (suc i) 0 _ (omega arith),
        splice_pack n i (λ j. f (suc j)) k v (λ j. h (suc j)) l' m,
      )
      (ap (λ (r : Bytes). f 0 ++ r)
      (pack_ext n (upd (λ j. f (suc j)) i (splice (f (suc i)) k v)) (λ j. upd f (suc i) (splice (f (suc i)) k v) (suc j))
      (λ j _. shift f i j (splice (f (suc i)) k v))))

  -- a splice within the first part
  pub splice_first :
      (n : ℕ) (f : ℕ → Bytes) (k : ℕ) (v : Bytes) → ((j : ℕ) → length (f j) ≡ w) → 0 < n → k + length v ≤ w →
      splice (pack n f) k v ≡ pack n (upd f 0 (splice (f 0) k v))
  splice_first n f k v h l m = rw (mul-zero, zero-add) at (splice_pack n 0 f k v h l m)

  -- part i stands at w * i
  drop_pack : (n i : ℕ) (f : ℕ → Bytes) → ((j : ℕ) → length (f j) ≡ w) → i < n → (r : Bytes) × (drop (w * i) (pack n f) ≡ f i ++ r)
  unfolding pack
  drop_pack zero i f h l = absurd (not-suc-le-zero l)
  drop_pack (suc n) zero f h l = (pack n (λ j. f (suc j)), rw mul-zero refl)
  drop_pack (suc n) (suc i) f h l =
      let ih : (r : Bytes) × (drop (w * i) (pack n (λ j. f (suc j))) ≡ f (suc i) ++ r) =
      drop_pack n i (λ j. f (suc j)) (λ j. h (suc j)) (omega arith) in
      let e : w * suc i ≡ length (f 0) + w * i = rw (h 0, mul-suc) (omega arith) in
      (ih.0, rw (e, drop-append-add) ih.1)

  pub part_pack :
      (n i : ℕ) (f : ℕ → Bytes) (k m : ℕ) → ((j : ℕ) → length (f j) ≡ w) → i < n → k + m ≤ w →
      take m (drop (w * i + k) (pack n f)) ≡ take m (drop k (f i))
  part_pack n i f k m h l p =
      let d = drop_pack n i f h l in
      let q : k ≤ length (f i) = omega (arith, h i) in
      let q' : m ≤ length (drop k (f i)) = omega (arith, h i, length-drop k (f i)) in
      rw (← drop-drop k (w * i) (pack n f), d.1, drop-append-le k (f i) d.0 q, take-append-le m (drop k (f i)) d.0 q')

  -- a number within part i
  pub number_pack :
      (n i : ℕ) (f : ℕ → Bytes) (k m : ℕ) → ((j : ℕ) → length (f j) ≡ w) → i < n → k + m ≤ w → number_at m (pack n f) (w * i + k) ≡ number_at m (f i) k
  number_pack n i f k m h l p = ap value (part_pack n i f k m h l p)

  pub at32_pack : (n i : ℕ) (f : ℕ → Bytes) (k : ℕ) → ((j : ℕ) → length (f j) ≡ w) → i < n → k + 4 ≤ w → at32 (pack n f) (w * i + k) ≡ at32 (f i) k
  at32_pack n i f k h l p = number_pack n i f k 4 h l p

  -- a list is its parts
  pub pack_parts : (n : ℕ) (b : Bytes) → length b ≡ w * n → pack n (λ j. take w (drop (w * j) b)) ≡ b
  unfolding pack
  pack_parts zero [] h = refl
  pack_parts zero (x ∷ b) h = absurd (omega (arith, mul-zero w))
  pack_parts (suc n) b h =
      let l : length (drop w b) ≡ w * n = omega (arith, length-drop w b, mul-suc w n) in
      let z : take w (drop (w * 0) b) ≡ take w b = rw mul-zero in
      ap₂ ◌++◌ z
      (pack_ext n (λ j. take w (drop (w * suc j) b)) (λ j. take w (drop (w * j) (drop w b)))
      (λ j _. ap (take w) (rw (drop-drop (w * j) w b, mul-suc, add_comm w (w * j))))
      ∙ pack_parts n (drop w b) l)
      ∙ take-append-drop w b
