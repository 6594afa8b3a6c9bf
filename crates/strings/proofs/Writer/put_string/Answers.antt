-- `put_string` meets its contract: the bytes stand behind their length.
use Rattle.std.proofs.Common.{arith}
use Rattle.octets.specs.NumberLaws.{length_be32}
use Rattle.strings.specs.WritingLaws.{◌then◌, room_behind}
use Rattle.strings.proofs.Writer.put_string.Goals as goal

pub put-requires : goal.put-requires
put-requires c = room_behind _ (omega (arith, length_be32)) c.put_u32.ensures

pub returns : goal.returns
returns c = c.put_u32.ensures then c.put.ensures
