-- Clear, from the moves of the code.
use Rattle.std.specs.Prelude.{ℕ, ◌≤◌, ◌≡◌, refl, ◌++◌, T, length}
use Rattle.std.proofs.Common.{sym, ◌∙◌, subst}
use Rattle.std.proofs.Math.Path.{ap}
use Rattle.std.proofs.Math.Option.{Option, none, some}
use Rattle.octets.specs.Bytes.{Bytes}
use Rattle.octets.specs.Put.{Put}
use Rattle.octets.specs.PutLaws.{put_as}
use Rattle.definition.specs.Value.{ClearValue}
use Rattle.definition.specs.Key.{string}
use Rattle.definition.specs.Chain.{Entry, entry, first}
use Rattle.definition.specs.Alarm.{Alarm, has_key}
use Rattle.definition.specs.Record.{last_active, last_state, alarm_bytes, read_alarm}
use Rattle.definition.specs.Book.{record_of}
use Rattle.definition.specs.Limits.{short_limit}
use Rattle.definition.specs.Clauses.LegalFields.{Time}
use Rattle.definition.proofs.Laws.Steps.ChangedLegal.{cleared_legal}
use Rattle.definition.specs.Steps.{cleared_by, clear_at, retire}
use Rattle.definition.specs.Answer.{Cleared, ClearWithoutActive, head, head_bytes, answer_bytes}
use Rattle.definition.specs.Sound.{station, sound}
use Rattle.definition.specs.Clauses.Does.{Does, Answers}
use Rattle.history.specs.Meaning.{IsAlarm, OnActive, Files}
use Rattle.register.specs.Search.{alarm_at}
use Rattle.history.specs.DoesLaws.{does_then, does_give}
use Rattle.history.specs.AlarmRecordLaws.{payload_legal, on_alarm, changed_payload}
use Rattle.answers.specs.AnswerLaws.{answer_as, answers_put}
use Rattle.state.specs.Meaning.{cleared_at}

module _ (b q p : Bytes) (i time : ℕ) (h : T (sound b)) (o : OnActive b i) (t : Time time) (l : q ≡ (record_of b i).content) (e : p ≡ alarm_bytes (cleared_by time (read_alarm q))) where
  abbrev was : Alarm
  was = alarm_at b i

  pub cleared_payload : IsAlarm last_state p × (read_alarm p ≡ cleared_by time was)
  cleared_payload = changed_payload b h last_state i (cleared_by time) q p o l e (cleared_legal time was t)

  -- the id stays
  cleared_id : (read_alarm p).id ≡ was.id
  unfolding cleared_by
  cleared_id = ap (λ (a : Alarm). a.id) cleared_payload.1

  pub cleared_short : length (read_alarm p).id ≤ short_limit
  cleared_short = subst (λ (s : Bytes). length s ≤ short_limit) (sym cleared_id) (payload_legal last_active (record_of b i).content (on_alarm b h i o).legal).id.0

  pub clears : (b' a a' id : Bytes) (n last : ℕ) → Files (retire i (read_alarm p)) b b' last → id ≡ (read_alarm p).id → Put a 0 (head_bytes (head 3 0 0) ++ string id) n a' → Answers (cleared_at time (entry i was)) b b' a a' n
  clears b' a a' id n last f k w =
      answers_put
      (does_then _ (subst (λ (y : Alarm). Does (retire i y) b b' tt) cleared_payload.1 f.does) (does_give b' (Cleared was.id) f.does.sound))
      (put_as (answer_as (Cleared was.id) refl (ap string (sym (k ∙ cleared_id)))) w)

-- ---- given what a search for the key k found

module _ (c : ClearValue) (k b b' a a' : Bytes) (n : ℕ) where
  abbrev found : Option (Entry Alarm)
  found = first (has_key k) (station b).active

  pub clear_at_found : (e : Entry Alarm) → found ≡ some e → Answers (cleared_at c.time e) b b' a a' n → Answers (clear_at c k found) b b' a a' n
  unfolding clear_at
  clear_at_found e f w = rw f w

  pub clear_at_none :
      T (sound b) → found ≡ none → b' ≡ b → Put a 0 (answer_bytes (ClearWithoutActive k c.key.cause)) n a' →
      Answers (clear_at c k found) b b' a a' n
  unfolding clear_at
  clear_at_none h f q w = rw (f, q) (answers_put (does_give b (ClearWithoutActive k c.key.cause) h) w)
