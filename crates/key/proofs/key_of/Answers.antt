-- `key_of` meets its contract: type, cause, object and places stand one behind the other, and there is room for all; they are hashed, and the
-- digest's first 16 bytes fill the key.
use mathlib.Core.Path.{ap, ◌∙◌}
use native.Mathlib.Omega.{arith}
use lib.ListN.{length, take}
use lib.Seq.{length-take-le}
use Rattle.octets.specs.SpliceLaws.{splice_whole}
use Rattle.fips180.specs.Sha256.{sha256_of}
use Rattle.definition.specs.Limits.{short_limit}
use Rattle.definition.specs.Key.{string, fed, key_of}
use Rattle.definition.proofs.Laws.Text.Key.{length_string}
use Rattle.model.specs.PartLaws.{part_short}
use Rattle.strings.specs.WritingLaws.{◌then◌, wrote_as, same_length, in_slice, written_is}
use Rattle.key.proofs.Rooms.{room_front, room_behind, fed_room}
use Rattle.key.proofs.key_of.Goals as goal

pub put_cause-requires : goal.put_cause-requires
put_cause-requires c =
    let l = part_short c.args.call.now short_limit c.args.alarm_type c.part.ensures c.requires.0 in
    let n = ap length c.new-writer.ensures.bytes in
    (omega (arith, length_string c.part.result.now, same_length c.put_string.ensures), c.requires.1.cause)

pub put_object-requires : goal.put_object-requires
unfolding fed
put_object-requires c =
    let all = fed_room c.args.call.now c.args.alarm_type c.args.k (ap length c.new-writer.ensures.bytes) c.new-writer.ensures.place c.requires.0 c.requires.1 in
    let behind-type = room_behind all (wrote_as (ap string c.part.ensures) c.put_string.ensures) in
    (room_front _ (room_behind behind-type c.put_cause.ensures), c.requires.1.object)

pub put_places-requires : goal.put_places-requires
unfolding fed
put_places-requires c =
    let all = fed_room c.args.call.now c.args.alarm_type c.args.k (ap length c.new-writer.ensures.bytes) c.new-writer.ensures.place c.requires.0 c.requires.1 in
    let behind-type = room_behind all (wrote_as (ap string c.part.ensures) c.put_string.ensures) in
    (room_behind (room_behind behind-type c.put_cause.ensures) c.put_object.ensures, c.requires.1.places)

pub written-requires : goal.written-requires
written-requires c = in_slice c.put_places.ensures

pub returns : goal.returns
unfolding key_of fed
returns c =
    let type = wrote_as (ap string c.part.ensures) c.put_string.ensures in
    let whole = type then c.put_cause.ensures then c.put_object.ensures then c.put_places.ensures in
    c.put_bytes.ensures ∙ splice_whole _ (take 16 c.sha256-digest.result) (length-take-le 16 c.sha256-digest.result (omega (arith, c.sha256-digest.type_inv.1.0.1)))
    ∙ ap (take 16) (c.sha256-digest.ensures ∙ ap sha256_of (c.written.ensures ∙ written_is c.new-writer.ensures.place whole))
