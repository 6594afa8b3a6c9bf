-- `put_other` meets its contract: a length, `other:`, and the name behind it.
use Rattle.std.proofs.Common.{arith, ap, length-append}
use Rattle.std.specs.Prelude.{◌≡◌, ◌+◌, ◌++◌, length}
use Rattle.octets.specs.Bytes.{be32}
use Rattle.octets.specs.NumberLaws.{length_be32}
use Rattle.definition.specs.Cause.{other}
use Rattle.strings.specs.WritingLaws.{◌then◌, room_behind, wrote_as}
use Rattle.strings.proofs.Writer.put_other.Goals as goal

pub put-requires : goal.put-requires
put-requires c = room_behind _ (omega (arith, length_be32 (6 + length c.args.name.now))) c.put_u32.ensures

pub put-requires-2 : goal.put-requires-2
put-requires-2 c =
    let mark = be32 (6 + length c.args.name.now) in
    room_behind _ (omega (arith, length_be32 (6 + length c.args.name.now), length-append mark other)) (c.put_u32.ensures then c.put.ensures)

pub returns : goal.returns
returns c =
    let whole : 6 + length c.args.name.now ≡ length (other ++ c.args.name.now) = omega arith in
    wrote_as (ap (λ k. be32 k ++ (other ++ c.args.name.now)) whole) (c.put_u32.ensures then c.put.ensures then c.put-2.ensures)
