-- The byte is the field's slot.
use mathlib.Core.Path.{refl}
use mathlib.Core.List.{[], ◌∷◌}
use native.Mathlib.Omega.{arith}
use Rattle.definition.specs.Alarm.{with_state}
use Rattle.record.proofs.Writes.{becomes}
use Rattle.record.proofs.set_state.Goals as goal

pub returns : goal.returns
returns c =
    becomes 2 (with_state c.args.v) (c.args.v ∷ []) _ _ (omega arith) refl c.put_byte.ensures (λ a. refl)
