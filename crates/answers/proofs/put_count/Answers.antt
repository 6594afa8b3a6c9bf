-- `put_count` meets its contract: severity, amount and cause, one behind the other.
use mathlib.Core.Path.{ap}
use native.Mathlib.Omega.{arith}
use lib.ListN.{length}
use Rattle.octets.specs.NumberLaws.{length_be32}
use Rattle.strings.specs.WritingLaws.{◌then◌, room_behind, put_from}
use borrow.Author.Rules.{rules}
use Rattle.answers.proofs.put_count.Goals as goal

pub put_u32-requires : goal.put_u32-requires
put_u32-requires c = room_behind _ (search rules) c.put_byte.ensures

pub put_string-requires : goal.put_string-requires
put_string-requires c =
    (room_behind _ (omega (arith, length_be32, ap length c.new-writer.ensures.bytes)) (c.put_byte.ensures then c.put_u32.ensures), c.requires.1)

pub returns : goal.returns
returns c =
    put_from c.new-writer.ensures.bytes c.new-writer.ensures.place (c.put_byte.ensures then c.put_u32.ensures then c.put_string.ensures) c.place.ensures
    (search rules)
