-- A raise, from the moves of the code.
use Rattle.std.specs.Prelude.{ℕ, ◌≤◌, ◌<◌, ◌≡◌, ◌++◌, true, false, T, leb, length, Result}
use Rattle.std.proofs.Math.Path.{refl}
use Rattle.std.proofs.Common.{sym, ap, ◌∙◌, subst, le-leb}
use Rattle.std.proofs.Math.Option.{Option, none, some}
use Rattle.std.proofs.lemmas.Bool.{lt-leb}
use Rattle.octets.specs.Bytes.{Bytes, be32}
use Rattle.octets.specs.Put.{Put}
use Rattle.octets.specs.PutLaws.{put_as}
use Rattle.definition.specs.Value.{RaiseValue}
use Rattle.definition.specs.Chain.{Entry, entry, present, first}
use Rattle.definition.specs.Alarm.{Alarm, has_key, has_id}
use Rattle.definition.specs.Clauses.LegalFields.{LegalRaise}
use Rattle.definition.proofs.Laws.Steps.ChangedLegal.{updated_legal, new_legal}
use Rattle.definition.specs.Record.{last_active, alarm_bytes, read_alarm}
use Rattle.definition.specs.Book.{record_of}
use Rattle.definition.specs.Station.{◌>>=◌, refuse}
use Rattle.definition.specs.Steps.{change, updated_by, new_alarm, store, store_new, limit_exceeded, raise_at}
use Rattle.definition.specs.Answer.{Raised, Updated, ActiveLimitExceeded, head, head_bytes, answer_bytes}
use Rattle.definition.specs.Sound.{station, sound}
use Rattle.definition.specs.Clauses.Does.{Does, Answers, Refuses}
use Rattle.history.specs.Meaning.{IsAlarm, OnActive, Revises}
use Rattle.history.specs.FileLaws.{changes}
use Rattle.register.specs.Search.{alarm_at}
use Rattle.history.specs.DoesLaws.{does_then, does_look, does_yes, does_no}
use Rattle.history.specs.AlarmRecordLaws.{alarm_payload, payload_as, changed_payload}
use Rattle.answers.specs.AnswerLaws.{alarm_as, answers_put}
use Rattle.changes.specs.Meaning.{updated_with, news_in, updated_with_lem}
use Rattle.reply.specs.Meaning.{RepliesBy}
use Rattle.reply.specs.ReplyLaws.{replies_at}
use Rattle.raising.specs.Meaning.{updates_at, raises_new}

-- ---- an active alarm is updated

module _ (c : RaiseValue) (b q p : Bytes) (i : ℕ) (h : T (sound b)) (o : OnActive b i) (l : LegalRaise c) (k : q ≡ (record_of b i).content) (e : p ≡ alarm_bytes (updated_with (news_in c) (read_alarm q))) where
  abbrev alarm : Alarm
  alarm = updated_by c (alarm_at b i)

  pub updated_payload : IsAlarm last_active p × (read_alarm p ≡ alarm)
  updated_payload = changed_payload b h last_active i (updated_by c) q p o k (e ∙ ap alarm_bytes (updated_with_lem c (read_alarm q))) (updated_legal c (alarm_at b i) l)

  pub updates : (b' a a' : Bytes) (last n : ℕ) → Revises i (read_alarm p) b b' last → Put a 0 (head_bytes (head 2 1 0) ++ (be32 0 ++ p)) n a' → Answers (updates_at b i c) b b' a a' n
  updates b' a a' last n f w =
      answers_put (subst (λ (y : Alarm). Does (change Updated i y) b b' (Updated y)) updated_payload.1 (changes Updated i (read_alarm p) f)) (put_as (alarm_as (Updated alarm) alarm refl refl (payload_as last_active p updated_payload.0.legal updated_payload.1)) w)

-- ---- a new one is stored

module _ (c : RaiseValue) (k b : Bytes) (h : T (sound b)) where
  abbrev new : Alarm
  new = new_alarm c k

  abbrev taken : Option (Entry Alarm)
  taken = first (has_id c.head.id) (station b).active

  -- 31: "raise would store an id that is active"
  pub id_taken : (b' a a' : Bytes) → present taken ≡ true → b' ≡ b → a' ≡ a → Refuses (store_new new) b b' a a' 31
  unfolding store_new new_alarm ◌>>=◌
  id_taken b' a a' e r s = record { stops = rw e; register = r; answer = s }

  module _ (p : Bytes) (l : LegalRaise c) (w : length k ≡ 16) (e : p ≡ alarm_bytes new) where
    pub new_payload : IsAlarm last_active p × (read_alarm p ≡ new)
    new_payload = alarm_payload last_active new p e (new_legal c k l w)

    pub stores_new :
        (b' a a' : Bytes) (n : ℕ) → present taken ≡ false → Does (store (read_alarm p)) b b' (Raised (read_alarm p)) → Put a 0 (head_bytes (head 1 1 0) ++ (be32 0 ++ p)) n a' →
        Answers (store_new new) b b' a a' n
    unfolding store_new new_alarm
    stores_new b' a a' n f d z =
        answers_put
        (does_then _ (does_look b _ h) (does_no (present taken) (refuse 31) (store new) f (subst (λ (y : Alarm). Does (store y) b b' (Raised y)) new_payload.1 d)))
        (put_as (alarm_as (Raised new) new refl refl (sym e)) z)

  -- ---- "Otherwise .. ActiveLimitExceeded"

  pub limit_met :
      (a a' : Bytes) (m n : ℕ) → m ≡ (station b).limit_a → (station b).limit_a ≤ length (station b).active → Put a 0 (answer_bytes (ActiveLimitExceeded k m)) n a' → Answers (raises_new c k) b b a a' n
  unfolding raise_at
  limit_met a a' m n e full z =
      answers_put
      (does_then _ (does_look b _ h) (does_yes (leb (station b).limit_a (length (station b).active)) (limit_exceeded k) (store_new new) (le-leb _ _ full) (does_look b _ h)))
      (put_as (ap (λ (x : ℕ). answer_bytes (ActiveLimitExceeded k x)) e) z)

  pub has_room : (y : Result ℕ ℕ) (b' a a' : Bytes) → length (station b).active < (station b).limit_a → RepliesBy y (store_new new) b b' a a' → RepliesBy y (raises_new c k) b b' a a'
  unfolding raise_at ◌>>=◌
  has_room y b' a a' room r = replies_at y (store_new new) (raises_new c k) b b' a a' (rw (lt-leb (station b).limit_a (length (station b).active) room)) r

-- ---- given what a search for the key k found

module _ (c : RaiseValue) (k b b' a a' : Bytes) where
  abbrev found : Option (Entry Alarm)
  found = first (has_key k) (station b).active

  pub raise_at_found : (i n : ℕ) → found ≡ some (entry i (alarm_at b i)) → Answers (updates_at b i c) b b' a a' n → Answers (raise_at c k found) b b' a a' n
  unfolding raise_at
  raise_at_found i n f w = rw f w

  pub raise_at_none : (y : Result ℕ ℕ) → found ≡ none → RepliesBy y (raises_new c k) b b' a a' → RepliesBy y (raise_at c k found) b b' a a'
  raise_at_none y f w = rw f w
