-- Nine zeros are the slot of an absent end.
use mathlib.Core.Path.{refl}
use mathlib.Core.Option.{none}
use native.Mathlib.Omega.{arith}
use Rattle.definition.specs.Alarm.{with_end}
use Rattle.record.proofs.Writes.{becomes}
use Rattle.octets.specs.Bytes.{zeros}
use Rattle.octets.specs.NumberLaws.{length_zeros}
use Rattle.record.proofs.no_end.Goals as goal

pub returns : goal.returns
returns c = becomes 16 (with_end none) (zeros 9) _ _ (omega arith) (length_zeros 9) c.put_zeros.ensures (λ a. refl)
