-- M-102: "So no text can light a lamp: registers that differ only in texts and details give equal blocks from equal blocks and the same call."
use Rattle.std.specs.Prelude.{ℕ, ◌≡◌, List, [], ◌∷◌, T}
use Rattle.octets.specs.Bytes.{Bytes, Octets}
use Rattle.definition.specs.Sound.{sound}
use Rattle.definition.specs.Mask.{mask_register}
use Rattle.definition.specs.Twins.{AtEach, TwinPlaces}
use Rattle.definition.specs.Claim.{Fresh, Made, MadeOn, asked, Alike}
use Rattle.definition.specs.Panel.{PanelCall, PanelReturns}

-- ---- calls on a register and on a panel in one list

-- a call on the panel as it was made: what it asked; number and length that it returned, and the block that it left
pub record Shown : Type 0 where
  pub call : PanelCall
  pub number : ℕ
  pub length : ℕ
  pub block : Bytes

-- a place of the list: a call on the register, or one on the panel
pub data LampPlace : Type 0 where
  called : Made → LampPlace
  shown : Shown → LampPlace

-- places one after the other: each is made on the register and the block that those before it left, the first on the register b and the block k.
-- What slices hold is bytes
abbrev pub LampCourse : Bytes → Bytes → List LampPlace → Type 0
LampCourse b k [] = Unit {0}
LampCourse b k (called m ∷ l) = Octets m.call × MadeOn b m × LampCourse m.register k l
LampCourse b k (shown p ∷ l) = PanelReturns b k p.call p.number p.length p.block × LampCourse b p.block l

-- "the same call": two places of twin lists
abbrev pub TwinLampPlaces : LampPlace → LampPlace → Type 0
TwinLampPlaces (called m) (called m') = TwinPlaces (asked m) (asked m')
TwinLampPlaces (called m) (shown p') = ⊥
TwinLampPlaces (shown p) (called m') = ⊥
TwinLampPlaces (shown p) (shown p') = p.call ≡ p'.call

-- ---- what is equal

pub record SameShown (p p' : Shown) : Type 0 where
  pub number : p.number ≡ p'.number
  pub length : p.length ≡ p'.length
  pub block : p.block ≡ p'.block

abbrev pub AlikeLampPlaces : LampPlace → LampPlace → Type 0
AlikeLampPlaces (called m) (called m') = Alike m m'
AlikeLampPlaces (called m) (shown p') = ⊥
AlikeLampPlaces (shown p) (called m') = ⊥
AlikeLampPlaces (shown p) (shown p') = SameShown p p'

-- ---- the claim

pub record Lamps : Type 0 where
  -- sound registers that are equal with both fields, their lengths and presence taken as zero
  pub registers :
      (b b' k : Bytes) (p p' : Shown) → T (sound b) → T (sound b') → mask_register b ≡ mask_register b' → p.call ≡ p'.call →
      PanelReturns b k p.call p.number p.length p.block → PanelReturns b' k p'.call p'.number p'.length p'.block → SameShown p p'
  -- twin lists on fresh registers of the same limits, with the same calls on the panel at any places, from equal blocks
  pub lists :
      (a h e : ℕ) (b b' k : Bytes) (l l' : List LampPlace) → Fresh a h e b → Fresh a h e b' → LampCourse b k l → LampCourse b' k l' →
      AtEach TwinLampPlaces l l' → AtEach AlikeLampPlaces l l'
