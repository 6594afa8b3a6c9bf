-- The eight bytes are the field's slot.
use mathlib.Core.Path.{refl}
use native.Mathlib.Omega.{arith}
use Rattle.definition.specs.Alarm.{with_updated}
use Rattle.record.proofs.Writes.{becomes}
use Rattle.octets.specs.Bytes.{digits}
use Rattle.octets.specs.NumberLaws.{length_digits}
use Rattle.record.proofs.set_updated.Goals as goal

pub returns : goal.returns
returns c =
    becomes 4 (with_updated c.args.t) (digits 8 c.args.t) _ _ (omega arith) (length_digits 8 c.args.t) c.put64.ensures (λ a. refl)
