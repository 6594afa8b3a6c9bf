-- What a call on the panel asks, the flag of one alarm, and what a call shows.
use Rattle.std.specs.Prelude.{ℕ, ◌^◌, ◌≡◌, cond, ◌||◌, eqb, Result}
use Rattle.octets.specs.Bytes.{Bytes}
use Rattle.definition.specs.Panel as Definition
use Rattle.definition.specs.Panel.{show_on}
use Rattle.definition.specs.Sound.{station}
use Rattle.model.specs.declared.refusal.Refusal.{Refusal}
use Rattle.model.specs.Refusal.{number_in}
use Rattle.panel.specs.declared.PanelCall.{PanelCall}
use Rattle.panel.specs.declared.PanelCall.TheVariants.{Look, Write}

abbrev pub call_of : PanelCall → Definition.PanelCall
call_of Look = Definition.look
call_of (Write at value) = Definition.write at value

-- bit v alone where the state x is raised or updated, else none
abbrev pub flag_of : ℕ → ℕ → ℕ
flag_of x v = cond (eqb x 0 || eqb x 1) (2 ^ v) 0

-- a call on a sound register b came to r, and the block that was k is k'
pub record Shows (b k : Bytes) (call : PanelCall) (r : Result Unit Refusal) (k' : Bytes) : Type 0 where
  pub number_is : number_in r ≡ (show_on (station b) k (call_of call)).number
  pub block_is : k' ≡ (show_on (station b) k (call_of call)).block
