-- Each kind of slot: its width, that a legal value is read back, and what soundness comes to. For payloads, and for all code that reads,
-- writes or tests a slot.
use Rattle.std.specs.Prelude.{◌≡◌, Bool, true, false, ◌&&◌, leb, get_or}
use Rattle.std.proofs.Math.Path.{refl, sym, ap, ap₂}
use Rattle.std.proofs.Common.{◌∙◌, subst, add-zero, zero-add, length-append, take_at, drop_at, take_all, get_or-take, get_or-drop}
use mathlib.Core.List.{List, [], ◌∷◌, ◌++◌}
use Rattle.std.proofs.Math.Option.{Option, none, some}
use Prim.Native.Nat.{ℕ, suc, ◌+◌, ◌-◌, ◌^◌, ◌≤◌, ◌<◌}
use Rattle.std.proofs.Math.Nat.{add-sub_cancel_left}
use native.Mathlib.Omega.{arith}
use borrow.Author.Tests.{eq-eqb, ne_eqb, lt-ltb, le-leb, ltb-true, leb-true, eqb-true}
use Rattle.std.proofs.Math.Dec.{T}
use Rattle.std.proofs.Math.ListN.{length, take, drop, length-take, length-drop, take-append-drop}
use Rattle.std.proofs.Math.Seq.{length-take-le}
use Rattle.octets.specs.Bytes.{Bytes, Octets, same, zeros, pad, blank, digits, value, number_at}
use Rattle.octets.specs.BoolLaws.{and_false, and_true, both, both_left, both_right, holds, true_holds}
use Rattle.octets.specs.SameLaws.{same_append, same_refl, same→eq, eq→same, ne→same}
use Rattle.octets.specs.PartLaws.{part_length, part_drop, part_front}
use Rattle.octets.specs.NumberLaws.{length_zeros, length_pad, pad_fits, take_pad, pad_whole, length_digits, value_digits, digits_value, value_lt, octets_take, octets_drop}
use Rattle.definition.specs.Slot.{Slot, Field, sound_slot, raw, spare, up_to, number, string, option, cut, all_of, widths, pieces, tests, fields}
use Rattle.definition.proofs.Laws.Record.Join.{Fits, length_join, cut_join, matches, same_join, zipped, all_zipped}

-- every value has the slot's width, and a legal one is read back
pub record Lawful {A : Type 0} (s : Slot A) : Type 0 where
  pub len : (a : A) → length (s.put a) ≡ s.width
  pub back : (a : A) → T (s.ok a) → s.get (s.put a) ≡ a

module _ {A : Type 0} (s : Slot A) where
  -- sound bytes are those of a legal value, which they are read as
  pub sound_legal : (b : Bytes) → T (sound_slot s b) → (T (s.ok (s.get b))) × (s.put (s.get b) ≡ b)
  unfolding sound_slot
  sound_legal b t =
      let x = s.ok (s.get b) in
      let y = same (s.put (s.get b)) b in
      (both_left x y t, same→eq _ _ (both_right x y t))

  -- the bytes of a legal value are sound
  pub legal_sound : Lawful s → (a : A) → T (s.ok a) → T (sound_slot s (s.put a))
  unfolding sound_slot
  legal_sound k a t =
      let e = k.back a t in
      both (s.ok (s.get (s.put a))) (same (s.put (s.get (s.put a))) (s.put a))
      (subst (λ (x : A). T (s.ok x)) (sym e) t) (true_holds _ (eq→same _ _ (ap s.put e)))

-- ---- each kind of slot is lawful

pub is_raw : (n : ℕ) → Lawful (raw n)
is_raw n = record { len = length_pad n; back = λ a t. pad_whole n a (eqb-true (length a) n (holds _ t)) }

pub is_spare : (n : ℕ) → Lawful (spare n)
is_spare n = record { len = λ _. length_zeros n; back = λ a t. refl }

pub is_number : (n : ℕ) → Lawful (number n)
is_number n = record { len = length_digits n; back = λ a t. value_digits n a (ltb-true a (256 ^ n) (holds _ t)) }

pub is_string : (n : ℕ) (good : Bytes → Bool) → n < 65536 → Lawful (string n good)
is_string n good h =
    record {
      len = λ s. length-append (digits 2 (length s)) (pad n s) ∙ ap₂ ◌+◌ (length_digits 2 (length s)) (length_pad n s);
      back = λ s t.
          let l : length s ≤ n = leb-true (length s) n (holds _ (both_left (leb (length s) n) (good s) t)) in
          rw (
            take_at (digits 2 (length s)) (pad n s) 2 (length_digits 2 (length s)),
            drop_at (digits 2 (length s)) (pad n s) 2 (length_digits 2 (length s)),
            value_digits 2 (length s) (omega arith),
          ) (take_pad n s l);
    }

module _ {A : Type 0} (s : Slot A) (k : Lawful s) where
  pub is_option : Lawful (option s)
  unfolding zeros
  is_option = record { len = lens; back = backs }
    where
      lens : (a : Option A) → length ((option s).put a) ≡ (option s).width
      lens none = length_zeros (suc s.width)
      lens (some a) = ap suc (k.len a)

      backs : (a : Option A) → T ((option s).ok a) → (option s).get ((option s).put a) ≡ a
      backs none t = refl
      backs (some a) t = ap some (k.back a t)

-- fields one after the other, where their bytes have the widths and their values are read back
pub is_fields : {X : Type 0} (fs : List (Field X)) (of : List Bytes → X) → ((x : X) → Fits (widths fs) (pieces fs x)) → ((x : X) → T (all_of (tests fs x)) → of (pieces fs x) ≡ x) → Lawful (fields fs of)
is_fields fs of fit back =
    record {
      len = λ x. length_join (widths fs) (pieces fs x) (fit x);
      back = λ x t. ap of (cut_join (widths fs) (pieces fs x) (fit x)) ∙ back x t;
    }

-- ---- what soundness comes to

pub sound_raw : (n : ℕ) (b : Bytes) → length b ≡ n → sound_slot (raw n) b ≡ true
unfolding sound_slot
sound_raw n b h = rw (eq-eqb (length b) n h, pad_whole n b h) (same_refl b)

pub same_blank : (n : ℕ) (b : Bytes) → length b ≡ n → same (zeros n) b ≡ blank b
unfolding blank
same_blank n b h = rw h

pub sound_spare : (n : ℕ) (b : Bytes) → length b ≡ n → sound_slot (spare n) b ≡ blank b
unfolding sound_slot
sound_spare n b h = same_blank n b h

pub sound_up_to : (m : ℕ) (b : Bytes) → length b ≡ 1 → sound_slot (up_to m) b ≡ leb (get_or b 0 0) m
unfolding sound_slot
sound_up_to m [] h = absurd (omega arith)
sound_up_to m (x ∷ []) h = rw (same_refl (x ∷ [])) (and_true (leb x m))
sound_up_to m (x ∷ y ∷ b) h = absurd (omega arith)

pub sound_number : (n : ℕ) (b : Bytes) → length b ≡ n → Octets b → sound_slot (number n) b ≡ true
unfolding sound_slot
sound_number n b h o =
    let l : value b < 256 ^ n = subst (λ (m : ℕ). value b < 256 ^ m) h (value_lt b o) in
    rw (lt-ltb (value b) (256 ^ n) l, digits_value n b h o) (same_refl b)

module _ (n : ℕ) (good : Bytes → Bool) (b : Bytes) (size : length b ≡ 2 + n) where
  -- a length within the room: the string is good, and zeros follow
  string_fits : digits 2 (value (take 2 b)) ≡ take 2 b → value (take 2 b) ≤ n → sound_slot (string n good) b ≡ good (take (value (take 2 b)) (drop 2 b)) && blank (drop (value (take 2 b)) (drop 2 b))
  unfolding sound_slot blank
  string_fits stated h =
      let m = value (take 2 b) in
      let r = drop 2 b in
      let g = take m r in
      let lr : length r ≡ n = omega (arith, length-drop 2 b) in
      let lg : length g ≡ m = length-take-le m r (omega arith) in
      let lu : length (drop m r) ≡ n - m = omega (arith, length-drop m r) in
      let e : b ≡ take 2 b ++ (g ++ drop m r) = sym (ap (λ (x : Bytes). take 2 b ++ x) (take-append-drop m r) ∙ take-append-drop 2 b) in
      let p : digits 2 (length g) ++ pad n g ≡ take 2 b ++ (g ++ zeros (length (drop m r))) =
      rw (lg, stated, pad_fits n g (omega arith), lg, lu) in
      let q : same (digits 2 (length g) ++ pad n g) b ≡ same (zeros (length (drop m r))) (drop m r) =
      ap₂ same p e ∙ same_append (take 2 b) (take 2 b) (g ++ zeros (length (drop m r))) (g ++ drop m r) refl
      ∙ rw (same_refl (take 2 b), same_append g g (zeros (length (drop m r))) (drop m r) refl, same_refl g) in
      rw (q, le-leb (length g) n (omega arith))

  -- a length above it
  string_long : n < 65536 → n < value (take 2 b) → sound_slot (string n good) b ≡ false
  unfolding sound_slot
  string_long h65 h =
      let m = value (take 2 b) in
      let g = take m (drop 2 b) in
      let lg : length g ≤ n = omega (arith, length-take m (drop 2 b), length-drop 2 b) in
      let d : digits 2 (length g) ++ pad n g ≡ b → ⊥ =
      λ e. let w : length g ≡ m = sym (value_digits 2 (length g) (omega arith))
      ∙ ap value (sym (take_at (digits 2 (length g)) (pad n g) 2 (length_digits 2 (length g))) ∙ ap (take 2) e) in omega arith in
      rw (ne→same _ _ d) (and_false (leb (length g) n && good g))

module _ {A : Type 0} (s : Slot A) where
  pub option_none : (b : Bytes) → length b ≡ suc s.width → get_or b 0 0 ≡ 0 → sound_slot (option s) b ≡ blank (drop 1 b)
  unfolding sound_slot blank zeros same
  option_none [] l h = absurd (omega arith)
  option_none (x ∷ b) l h =
      let w : length b ≡ s.width = omega arith in
      rw (h, w)

  pub option_some : (b : Bytes) → 0 < length b → get_or b 0 0 ≡ 1 → sound_slot (option s) b ≡ sound_slot s (drop 1 b)
  unfolding sound_slot same
  option_some [] l h = absurd (omega arith)
  option_some (x ∷ b) l h = rw h

  pub option_else : (b : Bytes) → 0 < length b → 1 < get_or b 0 0 → sound_slot (option s) b ≡ false
  unfolding sound_slot same
  option_else [] l h = absurd (omega arith)
  option_else (x ∷ b) l h =
      let u : 1 < x = h in
      rw (ne_eqb x 0 (omega arith), ne_eqb 1 x (omega arith)) (and_false (s.ok (s.get b)))

-- fields are sound where each slot is
pub sound_fields : {X : Type 0} (fs : List (Field X)) (of : List Bytes → X) (b : Bytes) → ((x : X) → Fits (widths fs) (pieces fs x)) → length b ≡ (fields fs of).width →
    let x = of (cut 0 (widths fs) b) in
    sound_slot (fields fs of) b ≡ all_of (zipped (tests fs x) (matches (pieces fs x) (cut 0 (widths fs) b)))
unfolding sound_slot
sound_fields fs of b fit h =
    let ps = cut 0 (widths fs) b in
    let x = of ps in
    ap (λ (y : Bool). all_of (tests fs x) && y) (same_join 0 (widths fs) (pieces fs x) b (fit x) (h ∙ sym (zero-add _)))
    ∙ all_zipped (tests fs x) (matches (pieces fs x) ps)

-- ---- slots in longer bytes

pub part_first : (p : Bytes) (at n : ℕ) → 0 < n → get_or (take n (drop at p)) 0 0 ≡ get_or p at 0
part_first p at n h = get_or-take n (drop at p) 0 0 h ∙ get_or-drop at p 0 0 ∙ ap (λ (k : ℕ). get_or p k 0) (add-zero at)

-- a part that is lent from a place to n bytes behind it
pub part_lent : (p : Bytes) (at n : ℕ) → take (at + n - at) (drop at p) ≡ take n (drop at p)
part_lent p at n = rw add-sub_cancel_left

pub octets_part : (p : Bytes) (at n : ℕ) → Octets p → Octets (take n (drop at p))
octets_part p at n o = octets_take n (drop at p) (octets_drop at p o)

module _ (n : ℕ) (good : Bytes → Bool) (p : Bytes) (at : ℕ) where
  stated : value (take 2 (take (2 + n) (drop at p))) ≡ number_at 2 p at
  stated = ap value (part_front p at 2 (2 + n) (omega arith))

  -- the string that is read: as long as is said, or all of the room
  get_string : (string n good).get (take (2 + n) (drop at p)) ≡ take (number_at 2 p at) (take n (drop (at + 2) p))
  get_string = rw (stated, part_drop p at 2 n)

  pub string_get : number_at 2 p at ≤ n → (string n good).get (take (2 + n) (drop at p)) ≡ take (number_at 2 p at) (drop (at + 2) p)
  string_get h = get_string ∙ part_front p (at + 2) (number_at 2 p at) n h

  pub string_all : n ≤ number_at 2 p at → (string n good).get (take (2 + n) (drop at p)) ≡ take n (drop (at + 2) p)
  string_all h = get_string ∙ take_all (number_at 2 p at) (take n (drop (at + 2) p)) (omega (arith, length-take n (drop (at + 2) p)))

  -- it is good, and zeros follow
  pub string_sound :
      at + (2 + n) ≤ length p → Octets p → number_at 2 p at ≤ n →
      sound_slot (string n good) (take (2 + n) (drop at p)) ≡ good (take (number_at 2 p at) (drop (at + 2) p)) && blank (take (n - number_at 2 p at) (drop (at + 2 + number_at 2 p at) p))
  string_sound h o k =
      let m = number_at 2 p at in
      let b = take (2 + n) (drop at p) in
      let d : digits 2 (value (take 2 b)) ≡ take 2 b = digits_value 2 (take 2 b) (ap length (part_front p at 2 (2 + n) (omega arith)) ∙ part_length p at 2 (omega arith)) (octets_take 2 b (octets_part p at (2 + n) o)) in
      let e : n ≡ m + (n - m) = omega arith in
      string_fits n good b (part_length p at (2 + n) h) d (rw stated k)
      ∙ rw (stated, part_drop p at 2 n, part_front p (at + 2) m n k)
      (ap (λ (x : Bytes). good (take m (drop (at + 2) p)) && blank x) (ap (λ (w : ℕ). drop m (take w (drop (at + 2) p))) e ∙ part_drop p (at + 2) m (n - m)))

  -- its length is above the room
  pub string_unsound : at + (2 + n) ≤ length p → n < 65536 → n < number_at 2 p at → sound_slot (string n good) (take (2 + n) (drop at p)) ≡ false
  string_unsound h l k = string_long n good (take (2 + n) (drop at p)) (part_length p at (2 + n) h) l (rw stated k)
