-- `put_option` meets its contract: byte 0, or byte 1 and the string behind it.
use mathlib.Core.Path.{ap}
use mathlib.Core.Option.{some}
use Rattle.strings.specs.WritingLaws.{◌then◌, wrote_as}
use Rattle.key.proofs.Fed.{option_fed}
use Rattle.key.proofs.Rooms.{room_as, room_behind, string_asks}
use Rattle.key.proofs.put_option.Goals as goal

pub put_string-requires : goal.put_string-requires
put_string-requires c =
    string_asks _ (room_behind (room_as (option_fed _ c.in-Some.is (ap some c.part.ensures)) c.requires.0) c.put_byte-in-Some.ensures)

pub returns-in-Some : goal.returns-in-Some
returns-in-Some c =
    wrote_as (option_fed _ c.in-Some.is (ap some c.part.ensures)) (c.put_byte-in-Some.ensures then c.put_string.ensures)
