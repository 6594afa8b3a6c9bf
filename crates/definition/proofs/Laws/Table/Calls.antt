-- The bytes of the table's calls, field by field as "The call enters" lists them: "operation byte, then fields in order, nothing after".
-- For the rows of Marked, for EachNumber, YearlyBalance, WrongSeverity, Headline, Raises, Characters, Suppressions and Panels, and for the twins in
-- TwinRaises.
use Rattle.std.specs.Prelude.{ℕ, [], ◌∷◌, ◌++◌, length}
use Prim.Native.String.{String}
use Rattle.octets.specs.Bytes.{Bytes, ascii, be32, be64}
use Rattle.definition.specs.Slot.{join}

-- ---- fields

abbrev pub byte : ℕ → Bytes
byte b = b ∷ []

-- "A string is a u32 length and its bytes"
abbrev pub sent : String → Bytes
sent s = be32 (length (ascii s)) ++ ascii s

-- "byte 0, or byte 1 and the string"
abbrev pub absent : Bytes
absent = byte 0

abbrev pub present : String → Bytes
present s = 1 ∷ sent s

-- an object's kind, "with its strings in order": 1 NfInstance, 6 Tenant
abbrev pub instance : String → String → Bytes
instance a b = 1 ∷ (sent a ++ sent b)

abbrev pub tenant : String → Bytes
tenant a = 6 ∷ sent a

-- ---- "1 raise: time, id, type, severity, cause, object, tenant?, slice?, region?, text, details?"

-- those before the severity: type `t`
abbrev pub sent_before_severity : ℕ → String → Bytes
sent_before_severity time id = join (be64 time ∷ sent id ∷ sent "t" ∷ [])

-- those between it and the text: no slice, no region
abbrev sent_about : String → Bytes → Bytes → Bytes
sent_about cause object tenant? = join (sent cause ∷ object ∷ tenant? ∷ absent ∷ absent ∷ [])

-- those before the text, with severity 3
abbrev pub sent_before_text : ℕ → String → String → Bytes → Bytes → Bytes
sent_before_text time id cause object tenant? = sent_before_severity time id ++ (3 ∷ sent_about cause object tenant?)

-- no text, no details
abbrev pub raise_of : ℕ → String → String → Bytes → Bytes → Bytes
raise_of time id cause object tenant? = 1 ∷ (sent_before_text time id cause object tenant? ++ (sent "" ++ absent))

-- lease-lost on a tenant object
abbrev pub raise : ℕ → String → String → Bytes
raise time id object = raise_of time id "lease-lost" (tenant object) absent

-- the same, those behind the severity: lease-lost on the tenant object `a`
abbrev pub sent_behind_severity : Bytes
sent_behind_severity = sent_about "lease-lost" (tenant "a") absent ++ (sent "" ++ absent)

-- at time 0, with the id `a`, and another severity
abbrev pub raise_as : ℕ → Bytes
raise_as severity = 1 ∷ (sent_before_severity 0 "a" ++ (severity ∷ sent_behind_severity))

-- ---- "2 clear: time, type, cause, object, tenant?, slice?, region?": what `raise` raised
abbrev pub clear : ℕ → String → Bytes
clear time object =
    join (byte 2 ∷ be64 time ∷ sent "t" ∷ sent "lease-lost" ∷ tenant object ∷ absent ∷ absent ∷ absent ∷ [])

-- ---- "3 acknowledge, 4 suppress: time, id, authorised (0 or 1)"
abbrev plainly : ℕ → String → ℕ → Bytes
plainly op id authorised = join (byte op ∷ be64 0 ∷ sent id ∷ byte authorised ∷ [])

abbrev pub acknowledge : String → ℕ → Bytes
acknowledge id authorised = plainly 3 id authorised

abbrev pub suppress : String → ℕ → Bytes
suppress id authorised = plainly 4 id authorised

-- ---- "5, 6 the same with policy: time, id, principal, tenant?, reason, scope, correlation?, critical-allowed (0 or 1), authorised (0 or 1),
-- ---- denial message": principal `p`, no reason, scope 2, "global", critical-allowed 0, denial `no`
abbrev by_policy : ℕ → Bytes → String → ℕ → Bytes
by_policy op times id authorised =
    join (byte op ∷ times ∷ sent id ∷ sent "p" ∷ absent ∷ sent "" ∷ byte 2 ∷ absent ∷ byte 0 ∷ byte authorised ∷ sent "no" ∷ [])

abbrev pub acknowledge_by_policy : String → ℕ → Bytes
acknowledge_by_policy id authorised = by_policy 5 (be64 0) id authorised

abbrev pub suppress_by_policy : ℕ → String → ℕ → Bytes
suppress_by_policy time id authorised = by_policy 6 (be64 time) id authorised

-- M-105: "an end time, directly after the call's time"; authorised
abbrev pub suppress_until : ℕ → ℕ → String → Bytes
suppress_until time end id = by_policy 13 (be64 time ++ be64 end) id 1

-- ---- "7 expire: cutoff time"
abbrev pub expire : ℕ → Bytes
expire cutoff = join (byte 7 ∷ be64 cutoff ∷ [])

-- ---- M-105: "Operation 14 carries a cutoff"
abbrev pub lift : ℕ → Bytes
lift cutoff = join (byte 14 ∷ be64 cutoff ∷ [])
