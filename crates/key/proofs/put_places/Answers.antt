-- `put_places` meets its contract: three options, one behind the other.
use Rattle.definition.specs.Key.{fed_places}
use Rattle.strings.specs.WritingLaws.{◌then◌}
use Rattle.key.proofs.Rooms.{room_front, room_behind, option_wider}
use Rattle.key.proofs.put_places.Goals as goal

pub put_option-requires : goal.put_option-requires
unfolding fed_places
put_option-requires c = (room_front _ c.requires.0, option_wider _ _ c.requires.1.tenant)

pub put_option-requires-2 : goal.put_option-requires-2
unfolding fed_places
put_option-requires-2 c =
    (room_front _ (room_behind c.requires.0 c.put_option.ensures), option_wider _ _ c.requires.1.slice)

pub put_option-requires-3 : goal.put_option-requires-3
unfolding fed_places
put_option-requires-3 c =
    (room_behind (room_behind c.requires.0 c.put_option.ensures) c.put_option-2.ensures, c.requires.1.region)

pub returns : goal.returns
unfolding fed_places
returns c = c.put_option.ensures then c.put_option-2.ensures then c.put_option-3.ensures
