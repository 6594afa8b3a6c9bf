-- Byte 1 and the time's eight bytes are the field's slot.
use mathlib.Core.Path.{ap, refl}
use mathlib.Core.List.{◌∷◌}
use Prim.Native.Nat.{suc}
use native.Mathlib.Omega.{arith}
use Rattle.definition.specs.Alarm.{with_cleared}
use Rattle.record.proofs.Writes.{becomes}
use Rattle.octets.specs.Bytes.{digits}
use Rattle.octets.specs.NumberLaws.{length_digits}
use Rattle.record.proofs.set_cleared.Goals as goal

pub returns : goal.returns
returns c =
    becomes 5 (with_cleared c.args.t) (1 ∷ digits 8 c.args.t) _ _ (omega arith) (ap suc (length_digits 8 c.args.t)) c.put_time.ensures (λ a. refl)
