-- The byte is the field's slot.
use mathlib.Core.Path.{refl}
use mathlib.Core.List.{[], ◌∷◌}
use native.Mathlib.Omega.{arith}
use Rattle.definition.specs.Alarm.{with_severity}
use Rattle.record.proofs.Writes.{becomes}
use Rattle.record.proofs.set_severity.Goals as goal

pub returns : goal.returns
returns c =
    becomes 1 (with_severity c.args.v) (c.args.v ∷ []) _ _ (omega arith) refl c.put_byte.ensures (λ a. refl)
