-- "The call enters": "operation byte, then fields in order, nothing after"; or the number of the first fault. Each reader stands under
-- its row of the table; the lengths are those of "Longest, in bytes".
use Rattle.std.specs.Prelude.{ℕ, [], ◌∷◌, Bool, true, false, cond, ◌||◌, leb, eqb}
use Rattle.std.proofs.Math.Option.{Option, none, some}
use Rattle.octets.specs.Bytes.{Bytes}
use Rattle.definition.specs.Limits.{short_limit, region_limit, text_limit, details_limit, code_point_limit}
use Rattle.definition.specs.Utf8.{code_points, at_most}
use Rattle.definition.specs.Reader.{Out, got, bad, Reader, ◌>>=◌, give, refuse, into, number, choice, blob, text, optional, cause_text}
use Rattle.definition.specs.Value.{ObjectValue, PlacesValue, KeyValue, RaiseHeadValue, RaiseValue, ClearValue, PlainValue, ScopeValue, ActorValue, RequestValue, VerdictValue, PolicyValue, CallValue, acknowledging, suppressing, untimed, until}
use Rattle.definition.specs.Alarm.{before}

-- ---- "An affected object is one of eight kinds, 1 to 8 as `AffectedObject` lists them, with its strings in order; kind 4's shard is
-- ---- optional, kind 8 ends with a u16 queue."

-- an object string
abbrev pub name : Reader Bytes
name = text short_limit

unfoldable pub pair : (Bytes → Bytes → ObjectValue) → Reader ObjectValue
pair kind = do
  a ← name
  b ← name
  give (kind a b)

unfoldable pub session_store : Reader ObjectValue
session_store = do
  a ← name
  shard ← optional name
  give (ObjectValue.session_store a shard)

unfoldable pub data_plane_queue : Reader ObjectValue
data_plane_queue = do
  a ← name
  b ← name
  q ← number 2
  give (ObjectValue.data_plane_queue a b q)

unfoldable pub object_of : ℕ → Reader ObjectValue
object_of kind =
    cond (eqb kind 1) (pair ObjectValue.nf_instance)
    (cond (eqb kind 2) (pair ObjectValue.interface)
    (cond (eqb kind 3) (pair ObjectValue.peer)
    (cond (eqb kind 4) session_store
    (cond (eqb kind 5) (into ObjectValue.slice name)
    (cond (eqb kind 6) (into ObjectValue.tenant name)
    (cond (eqb kind 7) (into ObjectValue.certificate name)
    data_plane_queue))))))

unfoldable pub object : Reader ObjectValue
object = do
  kind ← choice 1 8
  object_of kind

-- ---- "Scope: 0 alarm with id, 1 tenant with string, 2 global."

unfoldable pub scope_of : ℕ → Reader ScopeValue
scope_of kind =
    cond (eqb kind 0) (into ScopeValue.alarm_scope (text short_limit))
    (cond (eqb kind 1) (into ScopeValue.tenant_scope (text short_limit))
    (give ScopeValue.global_scope))

unfoldable pub scope : Reader ScopeValue
scope = do
  kind ← choice 0 2
  scope_of kind

-- ---- 1 raise: time, id, type, severity, cause, object, tenant?, slice?, region?, text, details?

-- time, id, type, severity
unfoldable pub raise_head : Reader RaiseHeadValue
raise_head = do
  time ← number 8
  id ← text short_limit
  type ← text short_limit
  severity ← choice 0 5
  give (record { time = time; id = id; type = type; severity = severity })

-- tenant?, slice?, region?
unfoldable pub places : Reader PlacesValue
places = do
  tenant ← optional (text short_limit)
  slice ← optional (text short_limit)
  region ← optional (text region_limit)
  give (record { tenant = tenant; slice = slice; region = region })

-- cause, object, tenant?, slice?, region?
unfoldable pub key : Reader KeyValue
key = do
  c ← cause_text
  o ← object
  p ← places
  give (record { cause = c; object = o; places = p })

-- M-104: "A raise's text has at most 120 code points and still at most 256 bytes"; 33: "a raise whose well-formed text has more than 120 code
-- points, directly after 27 for that field"
unfoldable pub raise_text : Reader Bytes
raise_text = do
  t ← text text_limit
  cond (at_most code_point_limit (code_points t)) (give t) (refuse 33)

-- text, details?
unfoldable pub raise_body : RaiseHeadValue → KeyValue → Reader RaiseValue
raise_body h k = do
  t ← raise_text
  d ← optional (blob details_limit)
  give (record { head = h; key = k; text = t; details = d })

-- a region that is there has a byte
abbrev pub named : Option Bytes → Bool
named none = true
named (some []) = false
named (some (b ∷ s)) = true

-- 29: "raise with an empty region", at the region, before the text is read
unfoldable pub raise_fields : Reader RaiseValue
raise_fields = do
  h ← raise_head
  k ← key
  cond (named k.places.region) (raise_body h k) (refuse 29)

-- ---- 2 clear: time, type, cause, object, tenant?, slice?, region?

unfoldable pub clear_fields : Reader ClearValue
clear_fields = do
  time ← number 8
  type ← text short_limit
  k ← key
  give (record { time = time; type = type; key = k })

-- ---- 3 acknowledge, 4 suppress: time, id, authorised (0 or 1)

unfoldable pub plain_fields : Reader PlainValue
plain_fields = do
  time ← number 8
  id ← text short_limit
  authorised ← choice 0 1
  give (record { time = time; id = id; authorised = authorised })

-- ---- 5, 6 the same with policy: time, id, principal, tenant?, reason, scope, correlation?, critical-allowed (0 or 1), authorised
-- ---- (0 or 1), denial message

-- id, principal, tenant?, behind the call's time
unfoldable pub actor : ℕ → Reader ActorValue
actor time = do
  id ← text short_limit
  principal ← text short_limit
  tenant ← optional (text short_limit)
  give (record { time = time; id = id; principal = principal; tenant = tenant })

-- reason, scope, correlation?
unfoldable pub request : Reader RequestValue
request = do
  reason ← text text_limit
  s ← scope
  correlation ← optional (text short_limit)
  give (record { reason = reason; scope = s; correlation = correlation })

-- critical-allowed, authorised, denial message
unfoldable pub verdict : Reader VerdictValue
verdict = do
  critical ← choice 0 1
  authorised ← choice 0 1
  denial ← text region_limit
  give (record { critical = critical; authorised = authorised; denial = denial })

-- the fields behind the time
unfoldable pub policy_from : ℕ → Reader PolicyValue
policy_from time = do
  a ← actor time
  r ← request
  v ← verdict
  give (record { actor = a; request = r; verdict = v })

unfoldable pub policy_fields : Reader PolicyValue
policy_fields = do
  time ← number 8
  policy_from time

-- ---- 8 active list: severity, or 255 for all

unfoldable pub severity_or_all : Reader ℕ
severity_or_all = do
  b ← number 1
  cond (leb b 5 || eqb b 255) (give b) (refuse 25)

-- ---- 9 history: tenant?, slice?

unfoldable pub history_fields : Reader CallValue
history_fields = do
  tenant ← optional (text short_limit)
  slice ← optional (text short_limit)
  give (CallValue.history tenant slice)

-- ---- 13, M-105: "operation 6 with one more field, an end time, directly after the call's time"

-- an end is later than the call's time
abbrev pub is_later : ℕ → ℕ → Bool
is_later end time = before time end

-- 34: "an end not later than the call's time, after all field checks and before 30": all fields are read, and what they say is a refused call
abbrev pub until_later : ℕ → ℕ → PolicyValue → CallValue
until_later time end p = cond (is_later end time) (CallValue.policy (until end) p) (CallValue.refused 34)

unfoldable pub until_fields : Reader CallValue
until_fields = do
  time ← number 8
  end ← number 8
  p ← policy_from time
  give (until_later time end p)

-- ---- the table: 7 expire: cutoff time; 10 counts, 11 summary: none; 12 take audit: u16 n; M-105: "Operation 14 carries a cutoff", and "23
-- ---- allows 1 to 14"

unfoldable pub fields_of : ℕ → Reader CallValue
fields_of op =
    cond (eqb op 1) (into CallValue.raise raise_fields)
    (cond (eqb op 2) (into CallValue.clear clear_fields)
    (cond (eqb op 3) (into (CallValue.plain acknowledging) plain_fields)
    (cond (eqb op 4) (into (CallValue.plain suppressing) plain_fields)
    (cond (eqb op 5) (into (CallValue.policy (untimed acknowledging)) policy_fields)
    (cond (eqb op 6) (into (CallValue.policy (untimed suppressing)) policy_fields)
    (cond (eqb op 7) (into CallValue.expire (number 8))
    (cond (eqb op 8) (into CallValue.active severity_or_all)
    (cond (eqb op 9) history_fields
    (cond (eqb op 10) (give CallValue.counts)
    (cond (eqb op 11) (give CallValue.summary)
    (cond (eqb op 12) (into CallValue.take_audit (number 2))
    (cond (eqb op 13) until_fields
    (cond (eqb op 14) (into CallValue.lift (number 8))
    (refuse 23))))))))))))))

-- "nothing after": 24 for "bytes left over"
abbrev pub whole : Out CallValue → CallValue
whole (got c []) = c
whole (got c (b ∷ s)) = CallValue.refused 24
whole (bad n) = CallValue.refused n

-- 23: "empty"
unfoldable pub parse_call : Bytes → CallValue
parse_call [] = CallValue.refused 23
parse_call (op ∷ s) = whole (fields_of op s)
