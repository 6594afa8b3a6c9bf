-- Acknowledge and suppress, from the moves of the code.
use Rattle.std.specs.Prelude.{ℕ, ◌≤◌, ◌≡◌, ◌++◌, T, eqb}
use Rattle.std.proofs.Math.Path.{refl, ap}
use Rattle.std.proofs.Common.{sym, ◌∙◌, subst, arith, eq-eqb, ne_eqb}
use Rattle.std.proofs.Math.Option.{none, some}
use Rattle.octets.specs.Bytes.{Bytes, be32}
use Rattle.octets.specs.Put.{Put}
use Rattle.octets.specs.PutLaws.{put_as}
use Rattle.definition.specs.Key.{string}
use Rattle.definition.specs.Chain.{Entry, entry, first}
use Rattle.definition.specs.Alarm.{Alarm, has_id}
use Rattle.definition.specs.Record.{last_active, alarm_bytes, read_alarm}
use Rattle.definition.specs.Book.{record_of}
use Rattle.definition.specs.Clauses.LegalFields.{Time, Maybe}
use Rattle.definition.proofs.Laws.Steps.ChangedLegal.{acted_legal}
use Rattle.definition.specs.Station.{Step}
use Rattle.definition.specs.Value.{Action, acknowledging, suppressing, Deed, untimed, deed_action, deed_end}
use Rattle.definition.specs.Steps.{action_answer, not_authorized, acted_on, act, plain_at, plain, change}
use Rattle.definition.specs.Answer.{Answer, Unauthorized, NotFound, head, head_of, head_bytes, body, alarm_record, answer_bytes}
use Rattle.definition.specs.Sound.{station, sound}
use Rattle.definition.specs.Clauses.Does.{Does, Answers}
use Rattle.history.specs.Meaning.{IsAlarm, OnActive, Revises}
use Rattle.history.specs.FileLaws.{changes}
use Rattle.register.specs.Search.{alarm_at}
use Rattle.history.specs.DoesLaws.{does_then, does_give, does_look, does_yes, does_no}
use Rattle.history.specs.AlarmRecordLaws.{payload_as, changed_payload}
use Rattle.answers.specs.AnswerLaws.{alarm_as, answer_as, answers_put}
use Rattle.state.specs.Meaning.{plain_of, action_code}

-- the same step in other words
pub answers_as : {m m' : Step Answer} {b b' a a' : Bytes} {n : ℕ} → m ≡ m' → Answers m b b' a a' n → Answers m' b b' a a' n
answers_as {b = b} {b'} {a} {a'} {n} e w = subst (λ (m : Step Answer). Answers m b b' a a' n) e w

-- ---- a record is acted on

action_head : (x : Action) (a : Alarm) → head_of (action_answer x a) ≡ head (action_code x) 1 0
action_head acknowledging a = refl
action_head suppressing a = refl

action_body : (x : Action) (a : Alarm) → body (action_answer x a) ≡ alarm_record a
action_body acknowledging a = refl
action_body suppressing a = refl

module _ (b q p : Bytes) (i : ℕ) (d : Deed) (time : ℕ) (h : T (sound b)) (o : OnActive b i) (z : Maybe Time (deed_end d)) (t : Time time) (l : q ≡ (record_of b i).content) (e : p ≡ alarm_bytes (acted_on d time (read_alarm q))) where
  abbrev alarm : Alarm
  alarm = acted_on d time (alarm_at b i)

  pub acted_payload : IsAlarm last_active p × (read_alarm p ≡ alarm)
  acted_payload = changed_payload b h last_active i (acted_on d time) q p o l e (acted_legal d time (alarm_at b i) z t)

  pub acts :
      (b' a a' : Bytes) (last n c : ℕ) → Revises i (read_alarm p) b b' last → c ≡ action_code (deed_action d) → Put a 0 (head_bytes (head c 1 0) ++ (be32 0 ++ p)) n a' →
      Answers (act d time (entry i (alarm_at b i))) b b' a a' n
  unfolding act
  acts b' a a' last n c f k w =
      let x = deed_action d in
      answers_put (subst (λ (y : Alarm). Does (change (action_answer x) i y) b b' (action_answer x y)) acted_payload.1 (changes (action_answer x) i (read_alarm p) f))
      (put_as (alarm_as (action_answer x alarm) alarm (action_head x alarm ∙ ap (λ (m : ℕ). head m 1 0) (sym k)) (action_body x alarm) (payload_as last_active p acted_payload.0.legal acted_payload.1)) w)

-- ---- "unauthorised first, then NotFound"

module _ (x : Action) (time : ℕ) (id : Bytes) (b b' a a' : Bytes) (n : ℕ) (h : T (sound b)) where
  pub unauthorised : (f : ℕ) → f ≡ 0 → b' ≡ b → Put a 0 (answer_bytes (Unauthorized (not_authorized x))) n a' → Answers (plain x (plain_of time id f)) b b' a a' n
  unfolding plain
  unauthorised f z e w = answers_put (rw e (does_yes (eqb f 0) _ _ (eq-eqb f 0 z) (does_give b (Unauthorized (not_authorized x)) h))) w

  module _ (f : ℕ) (yes_flag : 1 ≤ f) where
    pub on_found : (e : Entry Alarm) → first (has_id id) (station b).active ≡ some e → Answers (act (untimed x) time e) b b' a a' n → Answers (plain x (plain_of time id f)) b b' a a' n
    unfolding plain plain_at
    on_found e k w = record {
      value = w.value;
      does = does_no (eqb f 0) _ _ (ne_eqb f 0 (λ z. omega (arith, z))) (does_then (plain_at x (plain_of time id f)) (does_look b _ h) (rw k w.does));
      size = w.size;
      bytes = w.bytes;
    }

    pub on_none : first (has_id id) (station b).active ≡ none → b' ≡ b → Put a 0 (head_bytes (head 10 0 0) ++ string id) n a' → Answers (plain x (plain_of time id f)) b b' a a' n
    unfolding plain plain_at
    on_none e k w =
        answers_put
        (does_no (eqb f 0) _ _ (ne_eqb f 0 (λ z. omega (arith, z))) (does_then (plain_at x (plain_of time id f)) (does_look b _ h) (rw (e, k) (does_give b (NotFound id) h))))
        (put_as (answer_as (NotFound id) refl refl) w)
