-- `put_u32`: std's bytes of v are its digits.
use Rattle.std.proofs.Common.{◌∙◌}
use Rattle.octets.specs.NumberLaws.{high_first}
use Rattle.strings.specs.WritingLaws.{wrote_as}
use Rattle.strings.proofs.Writer.put_u32.Goals as goal

pub returns : goal.returns
returns c = wrote_as (c.to_be_bytes.ensures ∙ high_first 4 c.args.v) c.put.ensures
