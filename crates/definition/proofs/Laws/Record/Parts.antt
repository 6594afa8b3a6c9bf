-- A payload as a list of parts, each a field in a slot of a kind that is known: the bytes have the slots' widths, and the payload's test says
-- what the slots' tests say. For the payloads of alarms and events (Payloads).
use Rattle.std.specs.Prelude.{List, [], ◌∷◌, Bool, ℕ, zero, suc, ◌+◌, take, drop}
use Rattle.octets.specs.Bytes.{Bytes}
use Rattle.definition.specs.Slot.{Slot, Field, sound_slot, all_of, ◌holds◌, widths, pieces, tests}
use Rattle.definition.proofs.Laws.Record.Join.{Fits}
use Rattle.definition.proofs.Laws.Record.Slot.{Lawful}
use Rattle.definition.proofs.Laws.Record.FieldTests.{Says, always, says_and}

-- a slot that is lawful, with what its test says
pub record SlotKind : Type 1 where
  pub A : Type 0
  pub slot : Slot A
  pub lawful : Lawful slot
  pub Is : A → Type 0
  pub says : (a : A) → Says (slot.ok a) (Is a)

-- a field of an X in such a slot
pub record Part (X : Type 0) : Type 1 where
  pub kind : SlotKind
  pub of : X → kind.A

infix 70 ◌keeps◌
abbrev pub ◌keeps◌ : {X : Type 0} (k : SlotKind) → (X → k.A) → Part X
◌keeps◌ k f = record { kind = k; of = f }

module _ {X : Type 0} where
  abbrev pub fields_in : List (Part X) → List (Field X)
  fields_in [] = []
  fields_in (l ∷ ls) = l.kind.slot holds l.of ∷ fields_in ls

  pub fits : (ls : List (Part X)) (x : X) → Fits (widths (fields_in ls)) (pieces (fields_in ls) x)
  fits [] x = tt
  fits (l ∷ ls) x = (l.kind.lawful.len (l.of x), fits ls x)

  -- what all tests say, and what test n says
  abbrev pub All : List (Part X) → X → Type 0
  All [] x = Unit {0}
  All (l ∷ ls) x = l.kind.Is (l.of x) × All ls x

  abbrev pub Nth : List (Part X) → X → ℕ → Type 0
  Nth [] x n = Unit {0}
  Nth (l ∷ ls) x zero = l.kind.Is (l.of x)
  Nth (l ∷ ls) x (suc n) = Nth ls x n

  pub nth : (ls : List (Part X)) (x : X) → All ls x → (n : ℕ) → Nth ls x n
  nth [] x p n = tt
  nth (l ∷ ls) x p zero = p.0
  nth (l ∷ ls) x p (suc n) = nth ls x p.1 n

  pub says_all : (ls : List (Part X)) (x : X) → Says (all_of (tests (fields_in ls) x)) (All ls x)
  says_all [] x = always
  says_all (l ∷ ls) x = says_and (l.kind.says (l.of x)) (says_all ls x)

  -- whether each slot is sound, the first at byte k
  abbrev pub sound_from : ℕ → List (Part X) → Bytes → List Bool
  sound_from k [] b = []
  sound_from k (l ∷ ls) b = sound_slot l.kind.slot (take l.kind.slot.width (drop k b)) ∷ sound_from (k + l.kind.slot.width) ls b

abbrev pub slot_kind : {A : Type 0} (s : Slot A) → Lawful s → (P : A → Type 0) → ((a : A) → Says (s.ok a) (P a)) → SlotKind
slot_kind {A} s l P h = record { A = A; slot = s; lawful = l; Is = P; says = h }
