-- `put_pair` meets its contract: the second string stands behind tag and first string.
use Rattle.strings.specs.WritingLaws.{◌then◌}
use Rattle.key.proofs.Rooms.{room_behind, string_asks}
use Rattle.key.proofs.put_pair.Goals as goal

pub put_string-requires : goal.put_string-requires
put_string-requires c = string_asks _ (room_behind c.requires c.put_single.ensures)

pub returns : goal.returns
returns c = c.put_single.ensures then c.put_string.ensures
