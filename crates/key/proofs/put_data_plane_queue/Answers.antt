-- `put_data_plane_queue` meets its contract: tag and strings, and the queue behind them.
use Rattle.strings.specs.WritingLaws.{◌then◌, wrote_as}
use Rattle.key.proofs.Fed.{queue_fed}
use Rattle.key.proofs.Rooms.{room_as, room_front, room_behind}
use Rattle.key.proofs.put_data_plane_queue.Goals as goal

pub put_pair-requires : goal.put_pair-requires
put_pair-requires c = room_front _ (room_as (queue_fed _ _ _) c.requires)

pub put_queue-requires : goal.put_queue-requires
put_queue-requires c = room_behind (room_as (queue_fed _ _ _) c.requires) c.put_pair.ensures

pub returns : goal.returns
returns c = wrote_as (queue_fed _ _ _) (c.put_pair.ensures then c.put_queue.ensures)
