-- A call on the panel: 22 first, then what the code of the panel says. For `show`.
use Rattle.std.specs.Prelude.{◌≡◌, refl, false, T, Result}
use Rattle.octets.specs.Bytes.{Bytes}
use Rattle.octets.specs.BoolLaws.{holds}
use Rattle.definition.specs.Panel as Definition
use Rattle.definition.specs.Panel.{show_of, PanelReturns}
use Rattle.definition.specs.Sound.{sound}
use Rattle.model.specs.declared.refusal.Refusal.{Refusal}
use Rattle.model.specs.Refusal.{number_in}
use Rattle.panel.specs.declared.PanelCall.{PanelCall}
use Rattle.panel.specs.Meaning.{call_of, Shows}

-- a sound register
pub shown : (b k k' : Bytes) (c : PanelCall) (r : Result Unit Refusal) → T (sound b) → Shows b k c r k' → PanelReturns b k (call_of c) (number_in r) 0 k'
unfolding show_of
shown b k k' c r h w = let e = holds (sound b) h in record { number_is = rw e w.number_is; length_is = refl; block_is = rw e w.block_is }

-- "An unsound register gives 22 .., the block unchanged"
pub not_shown : (b k : Bytes) (c : Definition.PanelCall) → sound b ≡ false → PanelReturns b k c 22 0 k
unfolding show_of
not_shown b k c e = record { number_is = rw e; length_is = refl; block_is = rw e }
