-- `read_number` meets its contract: the bytes, and their value.
use mathlib.Core.Path.{ap, ◌∙◌}
use native.Mathlib.Omega.{arith}
use Rattle.octets.specs.Bytes.{value}
use Rattle.definition.specs.Reader.{number}
use Rattle.model.specs.PartLaws.{part_short}
use Rattle.fields.specs.BytesLaws.{number_taken, below_power}
use Rattle.fields.specs.ReadingLaws.{stops, handed}
use Rattle.fields.proofs.part.read_number.Goals as goal

pub number-requires : goal.number-requires
number-requires c =
    omega (arith, part_short _ _ c.in_ok-value.field-0.value c.part.ensures c.in_ok-value.ensures.0.lies)

pub returns-in_err-value : goal.returns-in_err-value
unfolding number
returns-in_err-value c = rw (handed _ c.from_residual.ensures) (stops _ c.in_err-value.ensures)

pub returns : goal.returns
returns c =
    let read = c.in_ok-value.ensures in
    let short = part_short _ _ c.in_ok-value.field-0.value c.part.ensures read.0.lies in
    (number_taken read.0 (c.number.ensures.0 ∙ ap value c.part.ensures) (below_power short c.number.ensures.1), read.1)
