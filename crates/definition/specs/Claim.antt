-- Demand 3: "one claim on whole lists, not one for each call". What opening and calls returned and left, and what is claimed of it; and of the
-- numbers.
use Rattle.std.specs.Prelude.{ℕ, ◌≡◌, List, [], ◌∷◌, map, T, length, take, get_or}
use Rattle.octets.specs.Bytes.{Bytes, Octets, splice}
use Rattle.definition.specs.Station.{fresh}
use Rattle.definition.specs.Opening.{open_of}
use Rattle.definition.specs.Sound.{encode, sound}
use Rattle.definition.specs.Lists.{Reply, step_of, run}
use Rattle.definition.specs.Panel.{PanelCall, show_of}
use Rattle.definition.specs.Numbers.{opening_refusals, sound_refusals, step_refusals, panel_refusals, Among}
use Rattle.definition.specs.Mask.{mask_register, mask_answer}
use Rattle.definition.specs.Twins.{AtEach, TwinLists}

-- ---- what was returned and left: the promises of the entry points, word for word

-- an opening with the limits a, h and e on a slice: "every other call returns 0 and the answer's length, opening 0 and 0"
pub record OpenReturns (a h e : ℕ) (slice : Bytes) (number n : ℕ) (b : Bytes) : Type 0 where
  pub number_is : number ≡ (open_of a h e slice).number
  pub length_is : n ≡ 0
  pub register_is : b ≡ (open_of a h e slice).register

-- "Fresh means as an opening that returned 0 left it": b, with the limits a, h and e
pub record Fresh (a h e : ℕ) (b : Bytes) : Type 0 where
  pub slice : Bytes
  pub length : ℕ
  pub opening : OpenReturns a h e slice 0 length b

-- number, length, answer slice and register are those of a reply: the slice was o and is o', and "bytes past the answer are unchanged"; on
-- a refusal all are
pub record Gives (r : Reply) (o : Bytes) (number n : ℕ) (o' b' : Bytes) : Type 0 where
  pub number_is : number ≡ r.number
  pub length_is : n ≡ r.length
  pub answer_is : o' ≡ splice o 0 r.answer
  pub register_is : b' ≡ r.register

-- a call c on the register b and the answer slice o
abbrev pub StepReturns : Bytes → Bytes → Bytes → ℕ → ℕ → Bytes → Bytes → Type 0
StepReturns b c o = Gives (step_of b c (length o)) o

-- a call as it was made: its bytes and the answer slice's former ones; number and length that it returned, answer slice and register
-- that it left
pub record Made : Type 0 where
  pub call : Bytes
  pub former : Bytes
  pub number : ℕ
  pub length : ℕ
  pub answer : Bytes
  pub register : Bytes

-- the call m was made on the register b
abbrev pub MadeOn : Bytes → Made → Type 0
MadeOn b m = StepReturns b m.call m.former m.number m.length m.answer m.register

-- calls one after the other, the first on the register b, each other on what the one before left
abbrev pub Trace : Bytes → List Made → Type 0
Trace b [] = Unit {0}
Trace b (m ∷ l) = MadeOn b m × Trace m.register l

-- the call's operation, its first byte
abbrev pub operation : Made → ℕ
operation m = get_or m.call 0 0

-- "A list fixes each call's bytes and answer length; the answer slice's former bytes are free."
abbrev pub asked : Made → Bytes × ℕ
asked m = (m.call, length m.former)

-- ---- the first half: "from opening's bytes it takes each call's bytes and answer length in turn, and the sections above give number,
-- ---- length, answer and its next register"

abbrev pub AsReplied : Made → Reply → Type 0
AsReplied m r = Gives r m.former m.number m.length m.answer m.register

-- ---- the second half: twins. "Registers and answers are compared with both fields, their lengths and presence taken as zero"

-- the answer, without the bytes past it, masked by its operation
abbrev pub masked : Made → Bytes
masked m = mask_answer (operation m) (take m.length m.answer)

pub record Alike (m m' : Made) : Type 0 where
  pub number : m.number ≡ m'.number
  pub length : m.length ≡ m'.length
  pub answer : masked m ≡ masked m'
  pub register : mask_register m.register ≡ mask_register m'.register

-- what slices hold is bytes
abbrev pub AllOctets : List Made → Type 0
AllOctets [] = Unit {0}
AllOctets (m ∷ l) = Octets m.call × AllOctets l

-- ---- the claim

pub record Claim : Type 0 where
  -- every list of calls on a fresh register gives at every place what the definition gives from the limits and the list alone
  pub replied :
      (a h e : ℕ) (b : Bytes) (l : List Made) → Fresh a h e b → Trace b l → AtEach AsReplied l (run (map asked l) (encode (fresh a h e)))
  -- twins on fresh registers of the same limits give the same at every place, texts and details taken as zero
  pub twins :
      (a h e : ℕ) (b b' : Bytes) (l l' : List Made) → Fresh a h e b → Fresh a h e b' → AllOctets l → AllOctets l' → Trace b l → Trace b' l' →
      TwinLists (map asked l) (map asked l') → AtEach Alike l l'

-- ---- the numbers: what opening and calls give is 0 or a number of the table, so that a host that handles these handles all

pub record Numbers : Type 0 where
  pub opening : (a h e : ℕ) (slice : Bytes) → Among (open_of a h e slice).number (0 ∷ opening_refusals)
  -- what slices hold is bytes
  pub step : (b call : Bytes) (n : ℕ) → Octets call → Among (step_of b call n).number (0 ∷ step_refusals)
  -- 22 is given on no sound register
  pub on_sound_lem : (b call : Bytes) (n : ℕ) → Octets call → T (sound b) → Among (step_of b call n).number (0 ∷ sound_refusals)

-- M-102: what a look or a write of one byte gives
pub record PanelNumbers : Type 0 where
  pub panel : (b block : Bytes) (call : PanelCall) → Among (show_of b block call).number (0 ∷ panel_refusals)
