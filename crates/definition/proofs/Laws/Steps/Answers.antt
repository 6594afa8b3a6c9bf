-- What an answer says of the active chain, the answer without texts, and how long it is. For the laws of steps and twins, and for the code that
-- writes answers (`answers`, `alarm_lists`, `metrics`, `audit_log`).
use Rattle.std.specs.Prelude.{ℕ, ◌+◌, ◌*◌, ◌≡◌, refl, List, [], ◌∷◌, map, Bool, true, false, cond, eqb, length}
use Rattle.std.proofs.Common.{sym, ap, ◌∙◌, arith, eqb-true, length-append}
use Rattle.octets.specs.Bytes.{be32, be64}
use Rattle.octets.specs.NumberLaws.{length_digits}
use Rattle.definition.specs.Mask.{lists_records}
use Rattle.definition.specs.Alarm.{Alarm, Event}
use Rattle.definition.proofs.Laws.Record.Payloads.{length_alarm, length_event}
use Rattle.definition.specs.Answer.{Answer, Raised, Updated, Cleared, ClearWithoutActive, ActiveLimitExceeded, Suppressed, Acknowledged, Unauthorized, AuditFailed, NotFound, Expired, Lifted, Alarms, Counts, Summary, Events, Head, head_bytes, head_of, alarm_record, event_record, alarm_records, event_records, body, answer_bytes}
use Rattle.definition.proofs.Laws.Book.Contents.{length_map}
use Rattle.definition.proofs.Laws.Twins.Blank.{blank}

-- ---- what an answer says

-- of which kind the answer is: 8 where alarms are listed, as operations 8 and 9 do, 7 for operation 7, and 0 else
abbrev kind : Answer → ℕ
kind (Raised a) = 0
kind (Updated a) = 0
kind (Cleared i) = 0
kind (ClearWithoutActive k c) = 0
kind (ActiveLimitExceeded k n) = 0
kind (Suppressed a) = 0
kind (Acknowledged a) = 0
kind (Unauthorized m) = 0
kind (AuditFailed m) = 0
kind (NotFound i) = 0
kind (Expired n) = 7
kind (Lifted n) = 0
kind (Alarms l) = 8
kind (Counts l) = 0
kind (Summary t) = 0
kind (Events l) = 0

-- how many alarms came onto the active chain and how many went off it, by the answer's head, and of which kind the answer is
pub record Said : Type 0 where
  pub came : ℕ
  pub went : ℕ
  pub kind : ℕ

abbrev pub tells : ℕ → ℕ → ℕ → Said
tells c w k = record { came = c; went = w; kind = k }

abbrev pub said : Answer → Said
said x =
    let h = head_of x in
    tells (cond (eqb h.code 1) 1 0) (cond (eqb h.code 3) 1 0 + cond (eqb (kind x) 7) h.number 0) (kind x)

abbrev pub lists : Answer → Bool
lists x = eqb (said x).kind 8

-- the kind of an operation's answers
abbrev pub kind_of : ℕ → ℕ
kind_of op = cond (eqb op 7) 7 (cond (lists_records op) 8 0)

-- its answers list alarms for operations 8 and 9, and for no other
pub lists_op : (op : ℕ) → eqb (kind_of op) 8 ≡ lists_records op
lists_op op = go (eqb op 7) refl
  where
    other : (b : Bool) → eqb (cond b 8 0) 8 ≡ b
    other true = refl
    other false = refl

    go : (b : Bool) → eqb op 7 ≡ b → eqb (cond b 7 (cond (lists_records op) 8 0)) 8 ≡ lists_records op
    go true p = rw (eqb-true op 7 p)
    go false p = other (lists_records op)

-- its answers are of kind 7 for operation 7, and for no other
pub expires_op : (op : ℕ) → eqb (kind_of op) 7 ≡ eqb op 7
expires_op op = go (eqb op 7) (lists_records op)
  where
    go : (a b : Bool) → eqb (cond a 7 (cond b 8 0)) 7 ≡ a
    go true b = refl
    go false true = refl
    go false false = refl

-- ---- without texts and details

-- in answers of codes 1, 2, 6, 7 and ops 8, 9
abbrev pub blank_answer : Answer → Answer
blank_answer (Raised a) = Raised (blank a)
blank_answer (Updated a) = Updated (blank a)
blank_answer (Cleared i) = Cleared i
blank_answer (ClearWithoutActive k c) = ClearWithoutActive k c
blank_answer (ActiveLimitExceeded k n) = ActiveLimitExceeded k n
blank_answer (Suppressed a) = Suppressed (blank a)
blank_answer (Acknowledged a) = Acknowledged (blank a)
blank_answer (Unauthorized m) = Unauthorized m
blank_answer (AuditFailed m) = AuditFailed m
blank_answer (NotFound i) = NotFound i
blank_answer (Expired n) = Expired n
blank_answer (Lifted n) = Lifted n
blank_answer (Alarms l) = Alarms (map blank l)
blank_answer (Counts l) = Counts l
blank_answer (Summary t) = Summary t
blank_answer (Events l) = Events l

-- ---- how long an answer is: no text and no details count

pub length_alarm_record : (a : Alarm) → length (alarm_record a) ≡ 1536
length_alarm_record a = length-append (be32 0) _ ∙ omega (arith, length_digits 4 0, length_alarm a)

length_event_record : (e : Event) → length (event_record e) ≡ 1536
length_event_record e = length-append (be32 0) _ ∙ omega (arith, length_digits 4 0, length_event e)

pub length_alarm_records : (l : List Alarm) → length (alarm_records l) ≡ 1536 * length l
unfolding alarm_records
length_alarm_records [] = refl
length_alarm_records (a ∷ l) = length-append (alarm_record a) _ ∙ omega (arith, length_alarm_record a, length_alarm_records l)

pub length_event_records : (l : List Event) → length (event_records l) ≡ 1536 * length l
unfolding event_records
length_event_records [] = refl
length_event_records (e ∷ l) = length-append (event_record e) _ ∙ omega (arith, length_event_record e, length_event_records l)

same_record : (a : Alarm) → length (alarm_record (blank a)) ≡ length (alarm_record a)
same_record a = length_alarm_record (blank a) ∙ sym (length_alarm_record a)

body_blank : (x : Answer) → length (body (blank_answer x)) ≡ length (body x)
body_blank (Raised a) = same_record a
body_blank (Updated a) = same_record a
body_blank (Cleared i) = refl
body_blank (ClearWithoutActive k c) = refl
body_blank (ActiveLimitExceeded k n) = refl
body_blank (Suppressed a) = same_record a
body_blank (Acknowledged a) = same_record a
body_blank (Unauthorized m) = refl
body_blank (AuditFailed m) = refl
body_blank (NotFound i) = refl
body_blank (Expired n) = refl
body_blank (Lifted n) = refl
body_blank (Alarms l) =
    length_alarm_records (map blank l) ∙ ap (λ (n : ℕ). 1536 * n) (length_map blank l) ∙ sym (length_alarm_records l)
body_blank (Counts l) = refl
body_blank (Summary t) = refl
body_blank (Events l) = refl

pub length_head : (h : Head) → length (head_bytes h) ≡ 16
length_head h =
    omega (arith, length-append (be32 h.count) (be64 h.number), length_digits 4 h.count, length_digits 8 h.number)

pub length_answer : (x : Answer) → length (answer_bytes x) ≡ 16 + length (body x)
unfolding answer_bytes
length_answer x = omega (arith, length-append (head_bytes (head_of x)) (body x), length_head (head_of x))

pub size_blank : (x : Answer) → length (answer_bytes (blank_answer x)) ≡ length (answer_bytes x)
size_blank x = length_answer (blank_answer x) ∙ ap (λ (n : ℕ). 16 + n) (body_blank x) ∙ sym (length_answer x)
