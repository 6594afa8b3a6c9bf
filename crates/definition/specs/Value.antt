-- The values that a call holds: numbers and byte strings, and no offsets.
use Rattle.std.specs.Prelude.{ℕ}
use Rattle.octets.specs.Bytes.{Bytes}
use Rattle.std.proofs.Math.Option.{Option, none, some}

-- "An affected object is one of eight kinds, 1 to 8 as `AffectedObject` lists them, with its strings in order; kind 4's shard is optional,
-- kind 8 ends with a u16 queue"
pub data ObjectValue : Type 0 where
  nf_instance : Bytes → Bytes → ObjectValue
  interface : Bytes → Bytes → ObjectValue
  peer : Bytes → Bytes → ObjectValue
  session_store : Bytes → Option Bytes → ObjectValue
  slice : Bytes → ObjectValue
  tenant : Bytes → ObjectValue
  certificate : Bytes → ObjectValue
  data_plane_queue : Bytes → Bytes → ℕ → ObjectValue

-- tenant?, slice?, region?
pub record PlacesValue : Type 0 where
  pub tenant : Option Bytes
  pub slice : Option Bytes
  pub region : Option Bytes

-- cause, object, tenant?, slice?, region?: what a raise and a clear share, and with the type the key is made of
pub record KeyValue : Type 0 where
  pub cause : Bytes
  pub object : ObjectValue
  pub places : PlacesValue

-- a raise's fields before its cause
pub record RaiseHeadValue : Type 0 where
  pub time : ℕ
  pub id : Bytes
  pub type : Bytes
  pub severity : ℕ

-- 1 raise
pub record RaiseValue : Type 0 where
  pub head : RaiseHeadValue
  pub key : KeyValue
  pub text : Bytes
  pub details : Option Bytes

-- 2 clear
pub record ClearValue : Type 0 where
  pub time : ℕ
  pub type : Bytes
  pub key : KeyValue

-- 3 acknowledge, 4 suppress
pub record PlainValue : Type 0 where
  pub time : ℕ
  pub id : Bytes
  pub authorised : ℕ

-- "Scope: 0 alarm with id, 1 tenant with string, 2 global"
pub data ScopeValue : Type 0 where
  alarm_scope : Bytes → ScopeValue
  tenant_scope : Bytes → ScopeValue
  global_scope : ScopeValue

-- who asks, and for which alarm: time, id, principal, tenant?
pub record ActorValue : Type 0 where
  pub time : ℕ
  pub id : Bytes
  pub principal : Bytes
  pub tenant : Option Bytes

-- reason, scope, correlation?
pub record RequestValue : Type 0 where
  pub reason : Bytes
  pub scope : ScopeValue
  pub correlation : Option Bytes

-- what the authoriser said: critical-allowed, authorised, denial message
pub record VerdictValue : Type 0 where
  pub critical : ℕ
  pub authorised : ℕ
  pub denial : Bytes

-- 5, 6 the same with policy; 13
pub record PolicyValue : Type 0 where
  pub actor : ActorValue
  pub request : RequestValue
  pub verdict : VerdictValue

-- "3 acknowledge, 4 suppress"; "5, 6 the same with policy"
pub data Action : Type 0 where
  acknowledging : Action
  suppressing : Action

-- what a policy call asks for: an action as in 5 and 6; M-105: "Operation 13 is operation 6 with one more field, an end time"
pub data Deed : Type 0 where
  untimed : Action → Deed
  until : ℕ → Deed

abbrev pub deed_action : Deed → Action
deed_action (untimed x) = x
deed_action (until end) = suppressing

abbrev pub deed_end : Deed → Option ℕ
deed_end (untimed x) = none
deed_end (until end) = some end

-- the fourteen operations, and the number of a call's first fault
pub data CallValue : Type 0 where
  raise : RaiseValue → CallValue
  clear : ClearValue → CallValue
  plain : Action → PlainValue → CallValue
  policy : Deed → PolicyValue → CallValue
  expire : ℕ → CallValue
  active : ℕ → CallValue
  history : Option Bytes → Option Bytes → CallValue
  counts : CallValue
  summary : CallValue
  take_audit : ℕ → CallValue
  lift : ℕ → CallValue
  refused : ℕ → CallValue

-- the operation's number; 0 for a call that the parser refused
abbrev pub op_of : CallValue → ℕ
op_of (CallValue.raise c) = 1
op_of (CallValue.clear c) = 2
op_of (CallValue.plain acknowledging p) = 3
op_of (CallValue.plain suppressing p) = 4
op_of (CallValue.policy (untimed acknowledging) p) = 5
op_of (CallValue.policy (untimed suppressing) p) = 6
op_of (CallValue.policy (until end) p) = 13
op_of (CallValue.expire t) = 7
op_of (CallValue.active v) = 8
op_of (CallValue.history t l) = 9
op_of CallValue.counts = 10
op_of CallValue.summary = 11
op_of (CallValue.take_audit k) = 12
op_of (CallValue.lift t) = 14
op_of (CallValue.refused k) = 0
