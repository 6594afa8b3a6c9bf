-- Legal fields as propositions, which proofs carry: each alarm's as a raise's, each event's as a policy call's or a raise's. The
-- definition's own tests stand in Record.antt.
use Rattle.std.specs.Prelude.{ℕ, ◌≤◌, ◌<◌, ◌≡◌, List, [], ◌∷◌, true, length}
use Rattle.std.proofs.Math.Option.{Option, none, some}
use Rattle.octets.specs.Bytes.{Bytes}
use Rattle.definition.specs.Limits.{short_limit, cause_limit, region_limit, text_limit, details_limit}
use Rattle.definition.specs.Utf8.{utf8}
use Rattle.definition.specs.Cause.{stored}
use Rattle.definition.specs.Value.{ObjectValue, KeyValue, RaiseValue, PolicyValue, ScopeValue, CallValue, deed_end}
use Rattle.definition.specs.Chain.{Entry}
use Rattle.definition.specs.Alarm.{Alarm, Event}
use Rattle.definition.specs.Station.{Station}
use Rattle.definition.specs.Numbers.{call_refusals, Among}

abbrev pub Time : ℕ → Type 0
Time t = t < 18446744073709551616

-- M-100: "a u32"
abbrev pub Raises : ℕ → Type 0
Raises n = n < 4294967296

abbrev pub Maybe : {A : Type 0} → (A → Type 0) → Option A → Type 0
Maybe P none = Unit {0}
Maybe P (some a) = P a

-- ---- strings

abbrev pub BlobOf : ℕ → Bytes → Type 0
BlobOf n v = length v ≤ n

abbrev pub TextOf : ℕ → Bytes → Type 0
TextOf n v = (length v ≤ n) × (utf8 v ≡ true)

abbrev pub CauseOf : Bytes → Type 0
CauseOf v = TextOf cause_limit v × (stored v ≡ true)

abbrev pub KeyOf : Bytes → Type 0
KeyOf k = length k ≡ 16

abbrev pub ObjectOf : ObjectValue → Type 0
ObjectOf (ObjectValue.nf_instance a b) = TextOf short_limit a × TextOf short_limit b
ObjectOf (ObjectValue.interface a b) = TextOf short_limit a × TextOf short_limit b
ObjectOf (ObjectValue.peer a b) = TextOf short_limit a × TextOf short_limit b
ObjectOf (ObjectValue.session_store a h) = TextOf short_limit a × Maybe (TextOf short_limit) h
ObjectOf (ObjectValue.slice a) = TextOf short_limit a
ObjectOf (ObjectValue.tenant a) = TextOf short_limit a
ObjectOf (ObjectValue.certificate a) = TextOf short_limit a
ObjectOf (ObjectValue.data_plane_queue a b q) = TextOf short_limit a × TextOf short_limit b × (q < 65536)

-- ---- records and stations

-- each record of a chain
abbrev pub Each : {A : Type 0} → (A → Type 0) → List (Entry A) → Type 0
Each P [] = Unit {0}
Each P (e ∷ c) = P e.content × Each P c

-- cause, object, tenant, slice, region of a raise: a region that is there has a byte
pub record LegalKey (k : KeyValue) : Type 0 where
  pub cause : CauseOf k.cause
  pub object : ObjectOf k.object
  pub tenant : Maybe (TextOf short_limit) k.places.tenant
  pub slice : Maybe (TextOf short_limit) k.places.slice
  pub region : Maybe (λ s. TextOf region_limit s × (1 ≤ length s)) k.places.region

-- M-105: an end is a suppressed alarm's
abbrev pub EndOf : ℕ → Option ℕ → Type 0
EndOf state end = Maybe (λ t. Time t × (state ≡ 3)) end

-- an alarm whose state is at most `top`: 3 on the active chain, 5 in history
pub record LegalAlarm (top : ℕ) (a : Alarm) : Type 0 where
  pub id : TextOf short_limit a.id
  pub type : TextOf short_limit a.type
  pub severity : a.severity ≤ 5
  pub about : LegalKey a.about
  pub text : TextOf text_limit a.text
  pub details : Maybe (BlobOf details_limit) a.details
  pub state : a.state ≤ top
  pub raised_at : Time a.raised_at
  pub updated_at : Time a.updated_at
  pub cleared_at : Maybe Time a.cleared_at
  pub key : KeyOf a.key
  pub raises : Raises a.raises
  pub end : EndOf a.state a.end

abbrev pub LegalScope : ScopeValue → Type 0
LegalScope (ScopeValue.alarm_scope s) = TextOf short_limit s
LegalScope (ScopeValue.tenant_scope s) = TextOf short_limit s
LegalScope ScopeValue.global_scope = Unit {0}

pub record LegalEvent (v : Event) : Type 0 where
  pub action : v.action ≤ 1
  pub outcome : v.outcome ≤ 1
  pub id : TextOf short_limit v.id
  pub type : TextOf short_limit v.type
  pub cause : CauseOf v.cause
  pub principal : TextOf short_limit v.principal
  pub tenant : Maybe (TextOf short_limit) v.tenant
  pub reason : TextOf text_limit v.reason
  pub scope : LegalScope v.scope
  pub correlation : Maybe (TextOf short_limit) v.correlation
  pub occurred_at : Time v.occurred_at

pub record LegalFields (s : Station) : Type 0 where
  pub active : Each (LegalAlarm 3) s.active
  pub history : Each (LegalAlarm 5) s.history
  pub audit : Each LegalEvent s.audit

-- the fields of calls that are stored
pub record LegalRaise (c : RaiseValue) : Type 0 where
  pub time : Time c.head.time
  pub id : TextOf short_limit c.head.id
  pub type : TextOf short_limit c.head.type
  pub severity : c.head.severity ≤ 5
  pub key : LegalKey c.key
  pub text : TextOf text_limit c.text
  pub details : Maybe (BlobOf details_limit) c.details

pub record LegalPolicy (p : PolicyValue) : Type 0 where
  pub time : Time p.actor.time
  pub principal : TextOf short_limit p.actor.principal
  pub tenant : Maybe (TextOf short_limit) p.actor.tenant
  pub reason : TextOf text_limit p.request.reason
  pub scope : LegalScope p.request.scope
  pub correlation : Maybe (TextOf short_limit) p.request.correlation

abbrev pub LegalCall : CallValue → Type 0
LegalCall (CallValue.raise c) = LegalRaise c
LegalCall (CallValue.clear c) = Time c.time
LegalCall (CallValue.plain x p) = Time p.time
LegalCall (CallValue.policy d p) = LegalPolicy p × Maybe Time (deed_end d)
LegalCall (CallValue.expire t) = Time t
LegalCall (CallValue.active v) = Unit {0}
LegalCall (CallValue.history t l) = Unit {0}
LegalCall CallValue.counts = Unit {0}
LegalCall CallValue.summary = Unit {0}
LegalCall (CallValue.take_audit k) = Unit {0}
LegalCall (CallValue.lift t) = Time t
LegalCall (CallValue.refused k) = Among k call_refusals
