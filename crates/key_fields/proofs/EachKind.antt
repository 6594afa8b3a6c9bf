-- The strings of each kind of objects.
use Rattle.std.specs.Prelude.{ℕ, ◌≡◌, ◌≢◌}
use borrow.Author.Tests.{ne_eqb}
use Rattle.octets.specs.Bytes.{Bytes}
use Rattle.definition.specs.Reader.{into}
use Rattle.definition.specs.Value.{ObjectValue}
use Rattle.definition.specs.Parse.{name, pair, session_store, data_plane_queue, object_of}
use Rattle.fields.specs.ReadingLaws.{row_is}

module _ (k : ℕ) (s : Bytes) where
  pub is_nf_instance : k ≡ 1 → object_of k s ≡ pair ObjectValue.nf_instance s
  unfolding object_of
  is_nf_instance h = rw h

  pub is_interface : k ≡ 2 → object_of k s ≡ pair ObjectValue.interface s
  unfolding object_of
  is_interface h = rw h

  pub is_peer : k ≡ 3 → object_of k s ≡ pair ObjectValue.peer s
  unfolding object_of
  is_peer h = rw h

  pub is_session_store : k ≡ 4 → object_of k s ≡ session_store s
  unfolding object_of
  is_session_store h = rw h

  pub is_slice : k ≡ 5 → object_of k s ≡ into ObjectValue.slice name s
  unfolding object_of
  is_slice h = rw h

  pub is_tenant : k ≡ 6 → object_of k s ≡ into ObjectValue.tenant name s
  unfolding object_of
  is_tenant h = rw h

  pub is_certificate : k ≡ 7 → object_of k s ≡ into ObjectValue.certificate name s
  unfolding object_of
  is_certificate h = rw h

  pub is_data_plane_queue : k ≢ 1 → k ≢ 2 → k ≢ 3 → k ≢ 4 → k ≢ 5 → k ≢ 6 → k ≢ 7 → object_of k s ≡ data_plane_queue s
  unfolding object_of
  is_data_plane_queue a b c d e f g = rw (ne_eqb k 1 a, ne_eqb k 2 b, ne_eqb k 3 c, ne_eqb k 4 d, ne_eqb k 5 e, ne_eqb k 6 f, ne_eqb k 7 g)

pub ruleset kinds = (row_is, is_nf_instance, is_interface, is_peer, is_session_store, is_slice, is_tenant, is_certificate, is_data_plane_queue)
