-- What it means to read on from a place of a slice, and what the readers of a part and of a call promise.
use Rattle.std.specs.Prelude.{ℕ, Bool, ◌≡◌, ◌≤◌, ◌<◌, ◌^◌, length, drop, Result, Ok, Err}
use Rattle.octets.specs.Bytes.{Bytes}
use Rattle.definition.specs.Reader.{got, bad, Reader}
use Rattle.model.specs.declared.refusal.Refusal.{Refusal}
use Rattle.model.specs.Meaning.{flag_value}
use Rattle.model.specs.Refusal.{refusal_number}
use Rattle.fields.specs.declared.moved.Read.{Read}

-- on from a place r gives the value that an answer means on the slice's bytes, and leaves those from `next` on; every part of the answer lies
-- in the slice, within its limit
pub record Gives {A B : Type 0} (s : Bytes) (at : ℕ) (r : Reader B) (value : Bytes → A → B) (within : Bytes → A → Type 0) (answer : A) (next : ℕ) : Type 0 where
  pub out : r (drop at s) ≡ got (value s answer) (drop next s)
  pub lies : within s answer

-- on from a place r finds a refusal
pub record Refuses {B : Type 0} (s : Bytes) (at : ℕ) (r : Reader B) (e : Refusal) : Type 0 where
  pub out : r (drop at s) ≡ bad (refusal_number e)

-- ---- a part of the call, with no word on where it stands

module _ {A B : Type 0} where
  -- at the start of a part: an answer that ends in it, or the refusal that r finds
  abbrev pub Finds : Bytes → Reader B → (Bytes → A → B) → (Bytes → A → Type 0) → Result (Read A) Refusal → Type 0
  Finds part r value within (Ok answer) = Gives part 0 r value within answer.value answer.next × (answer.next ≤ length part)
  Finds part r value within (Err e) = Refuses part 0 r e

-- ---- a call that is read field by field

-- a call, and how many of its bytes are read
pub record Reading : Type 0 where
  pub call : Bytes
  pub at : ℕ

-- what is left of the call
abbrev pub left : Reading → Bytes
left p = drop p.at p.call

module _ {A B : Type 0} where
  -- on from where the reading stands: an answer, and the reading goes on behind it in the same call; or the refusal that r finds, and the
  -- reading is still of the same call
  abbrev pub Reads : Reading → Reading → Reader B → (Bytes → A → B) → (Bytes → A → Type 0) → Result A Refusal → Type 0
  Reads p q r value within (Ok answer) = Gives p.call p.at r value within answer q.at × (q.call ≡ p.call)
  Reads p q r value within (Err e) = Refuses p.call p.at r e × (q.call ≡ p.call)

-- ---- what a number and a flag mean; they have no place

abbrev pub itself : Bytes → ℕ → ℕ
itself s v = v

abbrev pub of_width : ℕ → Bytes → ℕ → Type 0
of_width n s v = v < 256 ^ n

abbrev pub between : ℕ → ℕ → Bytes → ℕ → Type 0
between lo hi s v = (lo ≤ v) × (v ≤ hi)

abbrev pub flag : Bytes → Bool → ℕ
flag s b = flag_value b

abbrev pub anywhere : {A : Type 0} → Bytes → A → Type 0
anywhere s a = Unit
