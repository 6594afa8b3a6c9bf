-- Masking an answer's bytes is blanking the answer. For the claim.
use Rattle.std.specs.Prelude.{ℕ, ◌+◌, ◌-◌, ◌/◌, ◌≡◌, refl, List, [], ◌∷◌, ◌++◌, map, cond, length, get_or}
use Rattle.std.proofs.Common.{sym, ap, ap₂, ◌∙◌, append_assoc, append-nil, arith, length-append}
use Rattle.octets.specs.Bytes.{Bytes, zeros, splice, be32}
use Rattle.octets.specs.NumberLaws.{length_be32, length_zeros}
use Rattle.octets.specs.SpliceLaws.{splice_append, splice_front}
use Rattle.definition.specs.Alarm.{Alarm}
use Rattle.definition.specs.Record.{alarm_bytes}
use Rattle.definition.specs.Answer.{Answer, Raised, Updated, Cleared, ClearWithoutActive, ActiveLimitExceeded, Suppressed, Acknowledged, Unauthorized, AuditFailed, NotFound, Expired, Lifted, Alarms, Counts, Summary, Events, Head, head_bytes, head_of, alarm_record, alarm_records, answer_bytes}
use Rattle.definition.proofs.Laws.Steps.Answers.{length_head, length_alarm_record, length_alarm_records, lists, blank_answer}
use Rattle.definition.proofs.Laws.Book.Contents.{length_map}
use Rattle.definition.proofs.Laws.Twins.Blank.{blank}
use Rattle.definition.specs.Mask.{texts_at, texts_width, mask_record, mask_records, lists_records, holds_record, mask_answer}
use Rattle.definition.proofs.Laws.Twins.MaskRegister.{mask_payload_lem}

-- ---- records behind some bytes

mask_alarm_record : (a : Alarm) → splice (alarm_record a) texts_at (zeros texts_width) ≡ alarm_record (blank a)
mask_alarm_record a =
    ap (λ (k : ℕ). splice (alarm_record a) (k + 674) (zeros texts_width)) (sym (length_be32 0))
    ∙ splice_append (be32 0) (alarm_bytes a) 674 (zeros texts_width)
    ∙ ap (λ (p : Bytes). be32 0 ++ p) (mask_payload_lem a)

mask_behind : (h : Bytes) (a : Alarm) (r : Bytes) → mask_record (length h) (h ++ (alarm_record a ++ r)) ≡ h ++ (alarm_record (blank a) ++ r)
unfolding mask_record
mask_behind h a r =
    splice_append h (alarm_record a ++ r) texts_at (zeros texts_width)
    ∙ ap (λ (p : Bytes). h ++ p)
    (splice_front (alarm_record a) r texts_at (zeros texts_width) (omega (arith, length_zeros texts_width, length_alarm_record a)) ∙ ap (λ (p : Bytes). p ++ r) (mask_alarm_record a))

mask_records_lem : (h : Bytes) (l : List Alarm) → mask_records (length l) (length h) (h ++ alarm_records l) ≡ h ++ alarm_records (map blank l)
unfolding mask_records alarm_records
mask_records_lem h [] = refl
mask_records_lem h (a ∷ l) =
    let g = h ++ alarm_record (blank a) in
    let e : length h + 1536 ≡ length g = sym (length-append h (alarm_record (blank a)) ∙ ap (λ (n : ℕ). length h + n) (length_alarm_record (blank a))) in
    ap₂ (mask_records (length l)) e (mask_behind h a (alarm_records l) ∙ sym (append_assoc h (alarm_record (blank a)) (alarm_records l)))
    ∙ mask_records_lem g l
    ∙ append_assoc h (alarm_record (blank a)) (alarm_records (map blank l))

-- ---- answers

-- one record
mask_one : (h : Head) (a : Alarm) → mask_record 16 (head_bytes h ++ alarm_record a) ≡ head_bytes h ++ alarm_record (blank a)
mask_one h a =
    let b = head_bytes h in
    ap₂ (λ (k : ℕ) (p : Bytes). mask_record k (b ++ p)) (sym (length_head h)) (sym (append-nil (alarm_record a)))
    ∙ mask_behind b a [] ∙ ap (λ (p : Bytes). b ++ p) (append-nil (alarm_record (blank a)))

-- a list of records
mask_list : (h : Head) (l : List Alarm) →
    mask_records ((length (head_bytes h ++ alarm_records l) - 16) / 1536) 16 (head_bytes h ++ alarm_records l) ≡ head_bytes h ++ alarm_records (map blank l)
mask_list h l =
    let b = head_bytes h in
    let n : (length (b ++ alarm_records l) - 16) / 1536 ≡ length l = omega (arith, length-append b (alarm_records l), length_head h, length_alarm_records l) in
    ap₂ (λ (n k : ℕ). mask_records n k (b ++ alarm_records l)) n (sym (length_head h)) ∙ mask_records_lem b l

mask_kind : (x : Answer) →
    cond (lists x) (mask_records ((length (answer_bytes x) - 16) / 1536) 16 (answer_bytes x)) (cond (holds_record (get_or (answer_bytes x) 0 0)) (mask_record 16 (answer_bytes x)) (answer_bytes x))
    ≡ answer_bytes (blank_answer x)
unfolding answer_bytes
mask_kind (Raised a) = mask_one (head_of (Raised a)) a
mask_kind (Updated a) = mask_one (head_of (Updated a)) a
mask_kind (Cleared i) = refl
mask_kind (ClearWithoutActive k c) = refl
mask_kind (ActiveLimitExceeded k n) = refl
mask_kind (Suppressed a) = mask_one (head_of (Suppressed a)) a
mask_kind (Acknowledged a) = mask_one (head_of (Acknowledged a)) a
mask_kind (Unauthorized m) = refl
mask_kind (AuditFailed m) = refl
mask_kind (NotFound i) = refl
mask_kind (Expired n) = refl
mask_kind (Lifted n) = refl
mask_kind (Alarms l) = rw (length_map blank l) (mask_list (head_of (Alarms l)) l)
mask_kind (Counts l) = refl
mask_kind (Summary t) = refl
mask_kind (Events l) = refl

-- the answer to a call of operation op: a list of alarms for operations 8 and 9, and for no other
pub mask_answer_lem : (op : ℕ) (x : Answer) → lists x ≡ lists_records op → mask_answer op (answer_bytes x) ≡ answer_bytes (blank_answer x)
unfolding mask_answer
mask_answer_lem op x k = rw (← k) (mask_kind x)
