-- `put_single` meets its contract: the string stands behind the tag.
use Rattle.strings.specs.WritingLaws.{◌then◌}
use Rattle.key.proofs.Rooms.{room_front, room_behind, string_asks}
use Rattle.key.proofs.put_single.Goals as goal

pub put_string-requires : goal.put_string-requires
put_string-requires c = string_asks _ (room_front _ c.requires)

pub put_string-requires-2 : goal.put_string-requires-2
put_string-requires-2 c = string_asks _ (room_behind c.requires c.put_string.ensures)

pub returns : goal.returns
returns c = c.put_string.ensures then c.put_string-2.ensures
