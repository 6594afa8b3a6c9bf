-- "Answer bytes": `AlarmOpResult` in its order, then the answers of operations 7, 14 and 8 to 12; and their bytes.
use Rattle.std.specs.Prelude.{ℕ, List, [], ◌∷◌, ◌++◌, length}
use Rattle.octets.specs.Bytes.{Bytes, be32, be64}
use Rattle.definition.specs.Key.{string, hex}
use Rattle.definition.specs.Alarm.{Alarm, Event}
use Rattle.definition.specs.Record.{alarm_bytes, event_bytes}

-- op 10: "severity byte, u32 count of active alarms with both, cause string"
pub record Count : Type 0 where
  pub severity : ℕ
  pub amount : ℕ
  pub cause : Bytes

-- op 11: "number is the active length; body: worst severity .., worst `readiness_impact` .., then the u64 successes and failures"
pub record Totals : Type 0 where
  pub active : ℕ
  pub worst : ℕ
  pub readiness : ℕ
  pub successes : ℕ
  pub failures : ℕ

pub data Answer : Type 0 where
  Raised : Alarm → Answer
  Updated : Alarm → Answer
  Cleared : Bytes → Answer
  ClearWithoutActive : Bytes → Bytes → Answer
  ActiveLimitExceeded : Bytes → ℕ → Answer
  Suppressed : Alarm → Answer
  Acknowledged : Alarm → Answer
  Unauthorized : Bytes → Answer
  AuditFailed : Bytes → Answer
  NotFound : Bytes → Answer
  Expired : ℕ → Answer
  Lifted : ℕ → Answer
  Alarms : List Alarm → Answer
  Counts : List Count → Answer
  Summary : Totals → Answer
  Events : List Event → Answer

-- ---- "Head of 16: code, three zeros, u32 item count, u64 number"

pub record Head : Type 0 where
  pub code : ℕ
  pub count : ℕ
  pub number : ℕ

abbrev pub head : ℕ → ℕ → ℕ → Head
head c n v = record { code = c; count = n; number = v }

-- "Codes 1 to 10 are `AlarmOpResult` in its order; 11 for ops 7 to 12"; "Number is 0 and count 0 unless given; alarms count 1"; of op 10
-- "the head's item count is the number of these entries"; M-105: of op 14 "the number is reported under code 11"
abbrev pub head_of : Answer → Head
head_of (Raised a) = head 1 1 0
head_of (Updated a) = head 2 1 0
head_of (Cleared i) = head 3 0 0
head_of (ClearWithoutActive k c) = head 4 0 0
head_of (ActiveLimitExceeded k n) = head 5 0 n
head_of (Suppressed a) = head 6 1 0
head_of (Acknowledged a) = head 7 1 0
head_of (Unauthorized m) = head 8 0 0
head_of (AuditFailed m) = head 9 0 0
head_of (NotFound i) = head 10 0 0
head_of (Expired n) = head 11 0 n
head_of (Lifted n) = head 11 0 n
head_of (Alarms l) = head 11 (length l) 0
head_of (Counts l) = head 11 (length l) 0
head_of (Summary t) = head 11 0 t.active
head_of (Events l) = head 11 (length l) 0

abbrev pub head_bytes : Head → Bytes
head_bytes h = h.code ∷ 0 ∷ 0 ∷ 0 ∷ (be32 h.count ++ be64 h.number)

-- ---- the bodies

-- "one record, next zero"
abbrev pub alarm_record : Alarm → Bytes
alarm_record a = be32 0 ++ alarm_bytes a

abbrev pub event_record : Event → Bytes
event_record e = be32 0 ++ event_bytes e

unfoldable pub alarm_records : List Alarm → Bytes
alarm_records [] = []
alarm_records (a ∷ l) = alarm_record a ++ alarm_records l

unfoldable pub event_records : List Event → Bytes
event_records [] = []
event_records (e ∷ l) = event_record e ++ event_records l

unfoldable pub count_entries : List Count → Bytes
count_entries [] = []
count_entries (n ∷ l) = (n.severity ∷ (be32 n.amount ++ string n.cause)) ++ count_entries l

-- "alarm .. for 1, 2, 6, 7; id for 3, 10; key digits and cause for 4; key digits for 5 (number A); message for 8 and 9"; "Ids, causes and
-- messages are strings as in a call; key digits are 32 bare bytes"
abbrev pub body : Answer → Bytes
body (Raised a) = alarm_record a
body (Updated a) = alarm_record a
body (Cleared i) = string i
body (ClearWithoutActive k c) = hex k ++ string c
body (ActiveLimitExceeded k n) = hex k
body (Suppressed a) = alarm_record a
body (Acknowledged a) = alarm_record a
body (Unauthorized m) = string m
body (AuditFailed m) = string m
body (NotFound i) = string i
body (Expired n) = []
body (Lifted n) = []
body (Alarms l) = alarm_records l
body (Counts l) = count_entries l
body (Summary t) = t.worst ∷ t.readiness ∷ (be64 t.successes ++ be64 t.failures)
body (Events l) = event_records l

unfoldable pub answer_bytes : Answer → Bytes
answer_bytes x = head_bytes (head_of x) ++ body x
