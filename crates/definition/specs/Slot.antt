-- A slot is a fixed number of bytes that holds a value; a record's bytes are slots one after the other.
-- "Other offsets are chosen once in docs/LAYOUT.md; a byte without meaning is zero."
use Rattle.std.specs.Prelude.{List, [], ◌∷◌, ◌++◌, Bool, true, cond, ◌&&◌, ℕ, suc, ◌+◌, ◌^◌, leb, ltb, eqb, length, take, drop, get_or}
use Rattle.std.proofs.Math.Option.{Option, none, some}
use Rattle.octets.specs.Bytes.{Bytes, same, zeros, pad, digits, value}

pub record Slot (A : Type 0) : Type 0 where
  -- how many bytes
  pub width : ℕ
  -- the bytes of a value, and the value of the bytes
  pub put : A → Bytes
  pub get : Bytes → A
  -- the values that are legal here
  pub ok : A → Bool

-- the bytes are those of a legal value
unfoldable pub sound_slot : {A : Type 0} → Slot A → Bytes → Bool
sound_slot s b = s.ok (s.get b) && same (s.put (s.get b)) b

-- n bytes of any kind
abbrev pub raw : ℕ → Slot Bytes
raw n = record { width = n; put = pad n; get = λ b. b; ok = λ s. eqb (length s) n }

-- n bytes without a meaning
abbrev pub spare : ℕ → Slot Unit
spare n = record { width = n; put = λ _. zeros n; get = λ _. tt; ok = λ _. true }

-- a byte from 0 to m: "state .., action and outcome bytes among their values"
abbrev pub up_to : ℕ → Slot ℕ
up_to m = record { width = 1; put = λ v. v ∷ []; get = λ b. get_or b 0 0; ok = λ v. leb v m }

-- a number of n bytes
abbrev pub number : ℕ → Slot ℕ
number n = record { width = n; put = digits n; get = value; ok = λ v. ltb v (256 ^ n) }

-- a string's length in two bytes, and n bytes of room
abbrev pub string_bytes : ℕ → Bytes → Bytes
string_bytes n s = digits 2 (length s) ++ pad n s

-- a string of at most n bytes that is good
abbrev pub string : ℕ → (Bytes → Bool) → Slot Bytes
string n good =
    record {
      width = 2 + n;
      put = string_bytes n;
      get = λ b. take (value (take 2 b)) (drop 2 b);
      ok = λ s. leb (length s) n && good s;
    }

module _ {A : Type 0} (s : Slot A) where
  abbrev put_option : Option A → Bytes
  put_option none = zeros (suc s.width)
  put_option (some a) = 1 ∷ s.put a

  abbrev ok_option : Option A → Bool
  ok_option none = true
  ok_option (some a) = s.ok a

  -- byte 0, or byte 1 and a value
  abbrev pub option : Slot (Option A)
  option =
      record {
        width = suc s.width;
        put = put_option;
        get = λ b. cond (eqb (get_or b 0 0) 0) none (some (s.get (drop 1 b)));
        ok = ok_option;
      }

-- ---- slots one after the other

unfoldable pub join : List Bytes → Bytes
join [] = []
join (p ∷ ps) = p ++ join ps

-- the parts of b, of the given widths, from a place on
unfoldable pub cut : ℕ → List ℕ → Bytes → List Bytes
cut at [] b = []
cut at (w ∷ ws) b = take w (drop at b) ∷ cut (at + w) ws b

-- the sum of the widths
abbrev pub total_width : List ℕ → ℕ
total_width [] = 0
total_width (w ∷ ws) = w + total_width ws

-- every test holds
abbrev pub all_of : List Bool → Bool
all_of [] = true
all_of (x ∷ xs) = x && all_of xs

-- ---- a value of several fields, each in a slot of its own

-- one field of an X: its width, its bytes, and whether it is legal
pub record Field (X : Type 0) : Type 0 where
  pub width : ℕ
  pub put : X → Bytes
  pub ok : X → Bool

module _ {A X : Type 0} where
  -- the slot, and the field that is in it
  infix 70 ◌holds◌
  abbrev pub ◌holds◌ : Slot A → (X → A) → Field X
  ◌holds◌ s f = record { width = s.width; put = λ x. s.put (f x); ok = λ x. s.ok (f x) }

module _ {X : Type 0} where
  abbrev pub widths : List (Field X) → List ℕ
  widths [] = []
  widths (f ∷ fs) = f.width ∷ widths fs

  abbrev pub pieces : List (Field X) → X → List Bytes
  pieces [] x = []
  pieces (f ∷ fs) x = f.put x ∷ pieces fs x

  abbrev pub tests : List (Field X) → X → List Bool
  tests [] x = []
  tests (f ∷ fs) x = f.ok x ∷ tests fs x

  -- the fields one after the other; `of` makes a value of the parts
  abbrev pub fields : List (Field X) → (List Bytes → X) → Slot X
  fields fs of =
      record {
        width = total_width (widths fs);
        put = λ x. join (pieces fs x);
        get = λ b. of (cut 0 (widths fs) b);
        ok = λ x. all_of (tests fs x);
      }
