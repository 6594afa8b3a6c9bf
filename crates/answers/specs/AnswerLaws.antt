-- Laws of answers written part by part: a head, a body behind it, and what the two are.
use Rattle.std.specs.Prelude.{◌≡◌, refl, List, [], ◌∷◌, ◌++◌, ℕ, ◌+◌, ◌≤◌, length, take, drop}
use Rattle.std.proofs.Common.{sym, ap, ◌∙◌, append_assoc, arith, length-append, take_at, drop_at, length-take-le, take-take}
use Rattle.octets.specs.Bytes.{Bytes, be32, splice}
use Rattle.octets.specs.SpliceLaws.{splice_none}
use Rattle.octets.specs.Put.{Put}
use Rattle.octets.specs.PutLaws.{put_as}
use Rattle.definition.specs.Alarm.{Alarm, Event}
use Rattle.definition.specs.Record.{alarm_bytes}
use Rattle.definition.specs.Station.{Step}
use Rattle.definition.specs.Answer.{Answer, Head, head, head_of, head_bytes, alarm_record, event_record, event_records, body, answer_bytes}
use Rattle.definition.proofs.Laws.Steps.Answers.{length_head}
use Rattle.definition.specs.Clauses.Does.{Does, Answers}

-- ---- which answer a head and a body are

pub answer_as : (x : Answer) {h : Head} {v : Bytes} → head_of x ≡ h → body x ≡ v → head_bytes h ++ v ≡ answer_bytes x
unfolding answer_bytes
answer_as x p q = rw (p, q)

-- an alarm, from the bytes of its record
pub alarm_as :
    (x : Answer) (a : Alarm) {c : ℕ} {p : Bytes} → head_of x ≡ head c 1 0 → body x ≡ alarm_record a → alarm_bytes a ≡ p →
    head_bytes (head c 1 0) ++ (be32 0 ++ p) ≡ answer_bytes x
alarm_as x a h b e = answer_as x h (b ∙ ap (λ (t : Bytes). be32 0 ++ t) e)

-- ---- an answer at the front of the slice is what a step promises

pub answers_put : {m : Step Answer} {b b' a a' : Bytes} {n : ℕ} {x : Answer} → Does m b b' x → Put a 0 (answer_bytes x) n a' → Answers m b b' a a' n
answers_put {x = x} d p = record { value = x; does = d; size = omega (arith, p.next); bytes = p.bytes }

-- ---- a list, whose head is written once its entries are

-- no entry is written
pub put_none : (b : Bytes) (at : ℕ) → at ≤ length b → Put b at [] at b
put_none b at h = record { next = omega arith; fits = h; bytes = sym (splice_none b at) }

-- the head of a list of n
abbrev pub list_head : ℕ → Head
list_head n = head 11 n 0

splice_before : (b u v : Bytes) (at m : ℕ) → m ≡ at + length u → m + length v ≤ length b → splice (splice b m v) at u ≡ splice b at (u ++ v)
unfolding splice
splice_before b u v at m e h =
    let c = take m b ++ (v ++ drop (m + length v) b) in
    let front : take at c ≡ take at b =
    sym (take-take at m c (omega arith)) ∙ ap (take at) (take_at (take m b) (v ++ drop (m + length v) b) m (length-take-le m b (omega arith)))
    ∙ take-take at m b (omega arith) in
    let rest : drop (at + length u) c ≡ v ++ drop (m + length v) b =
    ap (λ (n : ℕ). drop n c) (sym e) ∙ drop_at (take m b) (v ++ drop (m + length v) b) m (length-take-le m b (omega arith)) in
    let behind : m + length v ≡ at + length (u ++ v) = omega (arith, length-append u v) in
    rw (front, rest, behind, append_assoc u v)

-- entries behind the place of the head, then the head
pub put_list : (x : Answer) (k : ℕ) → head_of x ≡ list_head k → {a c d : Bytes} {r n : ℕ} → Put a 16 (body x) r c → Put c 0 (head_bytes (list_head k)) n d → Put a 0 (answer_bytes x) r d
put_list x k e {a} p q =
    let h = head_bytes (list_head k) in
    let l = length_head (list_head k) in
    put_as (answer_as x e refl)
    (record {
      next = omega (arith, p.next, length-append h (body x));
      fits = p.fits;
      bytes = q.bytes ∙ ap (λ (t : Bytes). splice t 0 h) p.bytes ∙ splice_before a h (body x) 0 16 (omega arith) (omega (arith, p.next, p.fits));
    })

-- ---- records one behind the other

pub events_append : (l m : List Event) → event_records (l ++ m) ≡ event_records l ++ event_records m
unfolding event_records
events_append [] m = refl
events_append (e ∷ l) m = ap (λ (t : Bytes). event_record e ++ t) (events_append l m) ∙ sym (append_assoc (event_record e) (event_records l) (event_records m))
