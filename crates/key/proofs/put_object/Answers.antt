-- `put_object` meets its contract: what is put for each kind is what is fed of it.
use Rattle.octets.specs.Bytes.{ascii}
use Rattle.strings.specs.WritingLaws.{◌then◌, wrote_as}
use Rattle.definition.specs.Key.{parts, fed_object}
use Rattle.key.proofs.Fed.{object_fed, single_fed, pair_fed, store_fed, queue_lent}
use Rattle.key.proofs.Rooms.{room_as, room_front, room_behind, shard_wider}
use Rattle.key.proofs.put_object.Goals as goal

pub put_pair-requires : goal.put_pair-requires
unfolding fed_object parts
put_pair-requires c = room_as (object_fed _ c.in-NfInstance.is (pair_fed (ascii "NfInstance") c.part.ensures c.part-in-NfInstance.ensures)) c.requires.0

pub put_pair-requires-in-Interface : goal.put_pair-requires-in-Interface
unfolding fed_object parts
put_pair-requires-in-Interface c = room_as (object_fed _ c.in-Interface.is (pair_fed (ascii "Interface") c.part-in-Interface.ensures c.part-in-Interface-2.ensures)) c.requires.0

pub put_pair-requires-in-Peer : goal.put_pair-requires-in-Peer
unfolding fed_object parts
put_pair-requires-in-Peer c = room_as (object_fed _ c.in-Peer.is (pair_fed (ascii "Peer") c.part-in-Peer.ensures c.part-in-Peer-2.ensures)) c.requires.0

pub put_single-requires : goal.put_single-requires
unfolding fed_object parts
put_single-requires c = room_front _ (room_as (store_fed _ c.in-SessionStore.is c.part-in-SessionStore.ensures) c.requires.0)

pub put_option-requires : goal.put_option-requires
unfolding fed_object parts
put_option-requires c = (
  room_behind (room_as (store_fed _ c.in-SessionStore.is c.part-in-SessionStore.ensures) c.requires.0) c.put_single.ensures,
  shard_wider _ c.in-SessionStore.is c.requires.1,
)

pub put_single-requires-in-Slice : goal.put_single-requires-in-Slice
unfolding fed_object parts
put_single-requires-in-Slice c = room_as (object_fed _ c.in-Slice.is (single_fed (ascii "Slice") c.part-in-Slice.ensures)) c.requires.0

pub put_single-requires-in-Tenant : goal.put_single-requires-in-Tenant
unfolding fed_object parts
put_single-requires-in-Tenant c = room_as (object_fed _ c.in-Tenant.is (single_fed (ascii "Tenant") c.part-in-Tenant.ensures)) c.requires.0

pub put_single-requires-in-Certificate : goal.put_single-requires-in-Certificate
unfolding fed_object parts
put_single-requires-in-Certificate c = room_as (object_fed _ c.in-Certificate.is (single_fed (ascii "Certificate") c.part-in-Certificate.ensures)) c.requires.0

pub put_data_plane_queue-requires : goal.put_data_plane_queue-requires
unfolding fed_object parts
put_data_plane_queue-requires c = room_as (object_fed _ c.in-DataPlaneQueue.is (queue_lent _ c.part-in-DataPlaneQueue.ensures c.part-in-DataPlaneQueue-2.ensures)) c.requires.0

pub returns-in-NfInstance : goal.returns-in-NfInstance
unfolding fed_object parts
returns-in-NfInstance c = wrote_as (object_fed _ c.in-NfInstance.is (pair_fed (ascii "NfInstance") c.part.ensures c.part-in-NfInstance.ensures)) c.put_pair.ensures

pub returns-in-Interface : goal.returns-in-Interface
unfolding fed_object parts
returns-in-Interface c = wrote_as (object_fed _ c.in-Interface.is (pair_fed (ascii "Interface") c.part-in-Interface.ensures c.part-in-Interface-2.ensures)) c.put_pair-in-Interface.ensures

pub returns-in-Peer : goal.returns-in-Peer
unfolding fed_object parts
returns-in-Peer c = wrote_as (object_fed _ c.in-Peer.is (pair_fed (ascii "Peer") c.part-in-Peer.ensures c.part-in-Peer-2.ensures)) c.put_pair-in-Peer.ensures

pub returns-in-SessionStore : goal.returns-in-SessionStore
unfolding fed_object parts
returns-in-SessionStore c = wrote_as (store_fed _ c.in-SessionStore.is c.part-in-SessionStore.ensures) (c.put_single.ensures then c.put_option.ensures)

pub returns-in-Slice : goal.returns-in-Slice
unfolding fed_object parts
returns-in-Slice c = wrote_as (object_fed _ c.in-Slice.is (single_fed (ascii "Slice") c.part-in-Slice.ensures)) c.put_single-in-Slice.ensures

pub returns-in-Tenant : goal.returns-in-Tenant
unfolding fed_object parts
returns-in-Tenant c = wrote_as (object_fed _ c.in-Tenant.is (single_fed (ascii "Tenant") c.part-in-Tenant.ensures)) c.put_single-in-Tenant.ensures

pub returns-in-Certificate : goal.returns-in-Certificate
unfolding fed_object parts
returns-in-Certificate c = wrote_as (object_fed _ c.in-Certificate.is (single_fed (ascii "Certificate") c.part-in-Certificate.ensures)) c.put_single-in-Certificate.ensures

pub returns-in-DataPlaneQueue : goal.returns-in-DataPlaneQueue
unfolding fed_object parts
returns-in-DataPlaneQueue c = wrote_as (object_fed _ c.in-DataPlaneQueue.is (queue_lent _ c.part-in-DataPlaneQueue.ensures c.part-in-DataPlaneQueue-2.ensures)) c.put_data_plane_queue.ensures
