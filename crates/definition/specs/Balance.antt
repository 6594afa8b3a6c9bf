-- M-111, "Nothing lost between lists": "We want the yearly balance as a law". Its figures are numbers without bound: no sum wraps.
use Rattle.std.specs.Prelude.{ℕ, ◌+◌, ◌≡◌, List, [], ◌∷◌, Bool, cond, ◌&&◌, T, eqb, get_or}
use Rattle.octets.specs.Bytes.{Bytes, Octets, number_at, at32}
use Rattle.definition.specs.Sound.{sound}
use Rattle.definition.specs.Claim.{Fresh, Made, MadeOn, operation}

-- ---- what a call counts, read from its answer's bytes. All else counts nothing: refusals, other codes, other operations' numbers

-- it returned 0; its answer begins with the "Head of 16: code, three zeros, u32 item count, u64 number"
abbrev pub is_answered : Made → Bool
is_answered m = eqb m.number 0

abbrev code : Made → ℕ
code m = get_or m.answer 0 0

-- "answers Raised": code 1
abbrev pub raised : Made → ℕ
raised m = cond (is_answered m && eqb (code m) 1) 1 0

-- "answers Cleared": code 3
abbrev pub cleared : Made → ℕ
cleared m = cond (is_answered m && eqb (code m) 3) 1 0

-- "the numbers that expire calls gave": those of operation 7's answers. M-105's operation 14 tells of alarms that stay active
abbrev pub expired : Made → ℕ
expired m = cond (is_answered m && eqb (operation m) 7) (number_at 8 m.answer 8) 0

-- ---- "every list of these calls .., refusals included", with carry-overs among them

-- a place of a list: a call as it was made, or a carry-over into this register
pub data Place : Type 0 where
  called : Made → Place
  carried : Bytes → Place

-- what all calls of a list count; "a carry-over (M-109) counts as no event"
abbrev pub sum : (Made → ℕ) → List Place → ℕ
sum f [] = 0
sum f (called m ∷ l) = f m + sum f l
sum f (carried b ∷ l) = sum f l

-- "active length", as the register's header has it (docs/LAYOUT.md)
abbrev pub active_length : Bytes → ℕ
active_length b = at32 b 16

-- what the balance asks of a carry-over from b into b': b' is sound and has b's active length
abbrev pub CarriedOn : Bytes → Bytes → Type 0
CarriedOn b b' = T (sound b') × (active_length b' ≡ active_length b)

-- places one after the other, the first on the register b, each other on what the one before left; what slices hold is bytes
abbrev pub Course : Bytes → List Place → Type 0
Course b [] = Unit {0}
Course b (called m ∷ l) = Octets m.call × MadeOn b m × Course m.register l
Course b (carried b' ∷ l) = CarriedOn b b' × Course b' l

-- the register that the last of them left
abbrev pub last_left : Bytes → List Place → Bytes
last_left b [] = b
last_left b (called m ∷ l) = last_left m.register l
last_left b (carried b' ∷ l) = last_left b' l

-- ---- the balance

pub record Balance : Type 0 where
  -- "For every list of these calls from a fresh register, refusals included: answers Raised = active length + answers Cleared + the sum of the
  -- numbers that expire calls gave"
  pub fresh : (a h e : ℕ) (b : Bytes) (l : List Place) → Fresh a h e b → Course b l →
      sum raised l ≡ active_length (last_left b l) + sum cleared l + sum expired l
  -- from any sound register: what was active before stands beside what is raised
  pub onward : (b : Bytes) (l : List Place) → T (sound b) → Course b l →
      active_length b + sum raised l ≡ active_length (last_left b l) + sum cleared l + sum expired l
