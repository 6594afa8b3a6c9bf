-- `put_head` meets its contract: four fields, one behind the other.
use mathlib.Core.Path.{refl}
use native.Mathlib.Omega.{arith}
use Rattle.octets.specs.Bytes.{zeros}
use Rattle.octets.specs.NumberLaws.{length_digits}
use Rattle.answers.proofs.Parts.{part, ◌then◌}
use Rattle.answers.proofs.put_head.Goals as goal

pub returns : goal.returns
unfolding zeros
returns c =
    part c.put_byte.ensures refl (omega arith)
    then part c.put_zeros.ensures refl (omega arith)
    then part c.put32.ensures (length_digits 4 c.args.count) (omega arith)
    then part c.put64.ensures (length_digits 8 c.args.number) (omega arith)
