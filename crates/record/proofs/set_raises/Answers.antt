-- The four bytes are the field's slot.
use mathlib.Core.Path.{refl}
use native.Mathlib.Omega.{arith}
use Rattle.definition.specs.Alarm.{with_raises}
use Rattle.record.proofs.Writes.{becomes}
use Rattle.octets.specs.Bytes.{digits}
use Rattle.octets.specs.NumberLaws.{length_digits}
use Rattle.record.proofs.set_raises.Goals as goal

pub returns : goal.returns
returns c =
    becomes 15 (with_raises c.args.n) (digits 4 c.args.n) _ _ (omega arith) (length_digits 4 c.args.n) c.put32.ensures (λ a. refl)
