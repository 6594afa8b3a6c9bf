-- 515 zeros are the slot of absent details.
use mathlib.Core.Path.{refl}
use mathlib.Core.Option.{none}
use native.Mathlib.Omega.{arith}
use Rattle.definition.specs.Alarm.{with_details}
use Rattle.record.proofs.Writes.{becomes}
use Rattle.octets.specs.Bytes.{zeros}
use Rattle.octets.specs.NumberLaws.{length_zeros}
use Rattle.record.proofs.no_details.Goals as goal

pub returns : goal.returns
returns c = becomes 14 (with_details none) (zeros 515) _ _ (omega arith) (length_zeros 515) c.put_zeros.ensures (λ a. refl)
