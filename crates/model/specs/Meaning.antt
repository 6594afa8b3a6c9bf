-- What places in a call mean: offsets and lengths become the bytes there.
use Rattle.std.specs.Prelude.{ℕ, Bool, cond, ◌+◌, ◌≤◌, ◌<◌, [], ◌++◌, length, take, drop, get_or}
use Rattle.std.proofs.Math.Option.{Option, none, some}
use Rattle.octets.specs.Bytes.{Bytes}
use Rattle.definition.specs.Limits.{short_limit, cause_limit, region_limit}
use Rattle.definition.specs.Cause.{names, other}
use Rattle.definition.specs.Value.{ObjectValue, nf_instance, interface, peer, session_store, slice, tenant, certificate, data_plane_queue, PlacesValue, KeyValue}
use Rattle.definition.specs.Value as Value
use Rattle.model.specs.declared.Action.{Action}
use Rattle.model.specs.declared.Action.TheVariants.{Acknowledge, Suppress}
use Rattle.model.specs.declared.Deed.{Deed}
use Rattle.model.specs.declared.Deed.TheVariants.{Untimed, Until}
use Rattle.model.specs.declared.Span.{Span}
use Rattle.std.specs.Prelude.{None, Some}
use Rattle.std.specs.Prelude as Std
use Rattle.model.specs.declared.CauseSpan.{CauseSpan}
use Rattle.model.specs.declared.CauseSpan.TheVariants.{Name, Other}
use Rattle.model.specs.declared.AffectedObject.{AffectedObject}
use Rattle.model.specs.declared.AffectedObject.TheVariants as O
use Rattle.model.specs.declared.Places.{Places}
use Rattle.model.specs.declared.KeyFields.{KeyFields}

-- ---- values

abbrev pub part : Bytes → Span → Bytes
part call p = take p.len (drop p.at call)

-- a part that may be absent, as the code has it
abbrev pub OptSpan : Type 0
OptSpan = Std.Option Span

abbrev pub opt_part : Bytes → OptSpan → Option Bytes
opt_part call None = none
opt_part call (Some p) = some (part call p)

abbrev pub cause_part : Bytes → CauseSpan → Bytes
cause_part call (Name k) = get_or names k []
cause_part call (Other p) = other ++ part call p

-- kinds 1 to 8, in order
abbrev pub object_value : Bytes → AffectedObject → ObjectValue
object_value call (O.NfInstance a b) = nf_instance (part call a) (part call b)
object_value call (O.Interface a b) = interface (part call a) (part call b)
object_value call (O.Peer a b) = peer (part call a) (part call b)
object_value call (O.SessionStore a s) = session_store (part call a) (opt_part call s)
object_value call (O.Slice a) = slice (part call a)
object_value call (O.Tenant a) = tenant (part call a)
object_value call (O.Certificate a) = certificate (part call a)
object_value call (O.DataPlaneQueue a b n) = data_plane_queue (part call a) (part call b) n

abbrev pub places_value : Bytes → Places → PlacesValue
places_value call p = record { tenant = opt_part call p.tenant; slice = opt_part call p.slice; region = opt_part call p.region }

abbrev pub key_value : Bytes → KeyFields → KeyValue
key_value call k =
    record { cause = cause_part call k.cause; object = object_value call k.object; places = places_value call k.places }

-- ---- every part lies within the call and its limit

abbrev pub within : Bytes → ℕ → Span → Type 0
within call limit p = (p.at + p.len ≤ length call) × (p.len ≤ limit)

abbrev pub opt_within : Bytes → ℕ → OptSpan → Type 0
opt_within call limit None = Unit
opt_within call limit (Some p) = within call limit p

-- the stored form, `other:` included, is within the limit
abbrev pub cause_within : Bytes → CauseSpan → Type 0
cause_within call (Name k) = k < 21
cause_within call (Other p) = (p.at + p.len ≤ length call) × (6 + p.len ≤ cause_limit)

abbrev pub object_within : Bytes → AffectedObject → Type 0
object_within call (O.NfInstance a b) = within call short_limit a × within call short_limit b
object_within call (O.Interface a b) = within call short_limit a × within call short_limit b
object_within call (O.Peer a b) = within call short_limit a × within call short_limit b
object_within call (O.SessionStore a s) = within call short_limit a × opt_within call short_limit s
object_within call (O.Slice a) = within call short_limit a
object_within call (O.Tenant a) = within call short_limit a
object_within call (O.Certificate a) = within call short_limit a
object_within call (O.DataPlaneQueue a b n) = within call short_limit a × within call short_limit b

pub record PlacesWithin (call : Bytes) (p : Places) : Type 0 where
  pub tenant : opt_within call short_limit p.tenant
  pub slice : opt_within call short_limit p.slice
  pub region : opt_within call region_limit p.region

pub record KeyWithin (call : Bytes) (k : KeyFields) : Type 0 where
  pub cause : cause_within call k.cause
  pub object : object_within call k.object
  pub places : PlacesWithin call k.places

-- ---- actions, and what a policy call asks for

abbrev pub action_of : Action → Value.Action
action_of Acknowledge = Value.acknowledging
action_of Suppress = Value.suppressing

abbrev pub deed_of : Deed → Value.Deed
deed_of (Untimed x) = Value.untimed (action_of x)
deed_of (Until end) = Value.until end

-- ---- flags

-- a flag is a byte of a call, 0 or 1
abbrev pub flag_value : Bool → ℕ
flag_value b = cond b 1 0

-- ---- times

abbrev pub opt_time : Std.Option ℕ → Option ℕ
opt_time None = none
opt_time (Some t) = some t
