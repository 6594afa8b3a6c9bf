-- Laws of the sweep: how it starts, what it meets, how it goes on, and what it has done at its end.
use Rattle.std.specs.Prelude.{ℕ, suc, ◌+◌, ◌*◌, ◌≤◌, ◌<◌, ◌≡◌, true, false, T, length, drop}
use Rattle.std.proofs.Math.Path.{refl, ap}
use Rattle.std.proofs.Common.{sym, ◌∙◌, subst, arith, eq-eqb, ne_eqb}
use mathlib.Core.List.{List, [], ◌∷◌, ◌++◌, map, append_assoc, append-nil}
use Rattle.std.proofs.Math.Decide.{ℕ_discrete}
use Rattle.octets.specs.Bytes.{Bytes, at32}
use Rattle.octets.specs.Put.{Put}
use Rattle.octets.specs.PutLaws.{put_as}
use Rattle.definition.specs.Clauses.LegalBook.{last_of}
use Rattle.definition.specs.Chain.{Entry, on_content, entry, those, without, replaced, times}
use Rattle.definition.proofs.Laws.Book.Contents.{without_map, replaced_map}
use Rattle.definition.specs.Alarm.{Alarm}
use Rattle.definition.specs.Record.{last_active, alarm_bytes, read_alarm}
use Rattle.definition.specs.Book.{Record, record_of, read_book}
use Rattle.definition.proofs.Laws.Book.Split.{last_from, last_from_zero}
use Rattle.definition.proofs.Laws.Book.Replace.{replace_at}
use Rattle.definition.proofs.Laws.Book.SoundNumbers.{length_at}
use Rattle.definition.specs.Clauses.LegalFields.{Time, LegalAlarm}
use Rattle.definition.proofs.Laws.Steps.ChangedLegal.{expired_legal, lifted_legal}
use Rattle.definition.specs.Station.{Step, give, for_each}
use Rattle.definition.proofs.Laws.Steps.LegalSteps.{retire_legal, revise_legal}
use Rattle.definition.specs.Steps.{on_entry, round, lifted_by, retire_due, lift_over, expire, lift}
use Rattle.definition.specs.Answer.{Answer, Expired, Lifted, head, head_bytes, answer_bytes}
use Rattle.definition.specs.Sound.{book_of, station_of, station, sound}
use Rattle.definition.proofs.Laws.Steps.SoundStation.{sound_holds}
use Rattle.definition.proofs.Laws.Book.Occurrences.{times_hit, times_miss}
use Rattle.definition.specs.Clauses.Moves.{prev_of, CanRelease}
use Rattle.definition.specs.Clauses.Does.{Does, Answers}
use Rattle.register.specs.declared.Ends.{Ends}
use Rattle.history.specs.Meaning.{IsAlarm, Newest, OnActive, Files}
use Rattle.history.specs.DoesLaws.{does_then, does_give, does_look, does_end}
use Rattle.history.specs.Walk.{alarm_at}
use Rattle.register.specs.WalkLaws.{along_start, along_here, along_parts, along_on, along_once, along_fits, along_link, along_next}
use Rattle.history.specs.CountLaws.{those_hit, those_miss}
use Rattle.history.specs.AlarmRecordLaws.{changed_payload, on_station, on_alarm, payload_legal}
use Rattle.answers.specs.AnswerLaws.{answer_as, answers_put}
use Rattle.expiry.specs.Sweep.{takes, step_of, kept_by, taken_of, Swept, Sweep}
use Rattle.expiry.specs.declared.Round.{Round}
use Rattle.expiry.specs.declared.Round.TheVariants.{Expire, Lift}
use Rattle.expiry.specs.declared.Stand.{Stand}

-- ---- a record between others

module _ (e : Record) (t : List Record) where
  prev_at : (q : ℕ) (a : List Record) → times e.index a ≡ 0 → prev_of q e.index (a ++ (e ∷ t)) ≡ last_from q a
  unfolding prev_of last_from
  prev_at q [] h = rw (eq-eqb e.index e.index refl)
  prev_at q (d ∷ a) h = elim (ℕ_discrete d.index e.index) [
    | yes p ↦ absurd (omega (arith, times_hit d a e.index p))
    | no n ↦ rw (ne_eqb d.index e.index n) (prev_at d.index a (sym (times_miss d a e.index n) ∙ h))
  ]

  without_at : (a : List Record) → times e.index a ≡ 0 → without e.index (a ++ (e ∷ t)) ≡ a ++ t
  unfolding without
  without_at [] h = rw (eq-eqb e.index e.index refl)
  without_at (d ∷ a) h = elim (ℕ_discrete d.index e.index) [
    | yes p ↦ absurd (omega (arith, times_hit d a e.index p))
    | no n ↦ rw (ne_eqb d.index e.index n) (ap {B = List Record} (λ r. d ∷ r) (without_at a (sym (times_miss d a e.index n) ∙ h)))
  ]

last_behind : (a : List Record) (e : Record) → last_of (a ++ (e ∷ [])) ≡ e.index
unfolding last_of
last_behind [] e = refl
last_behind (d ∷ []) e = refl
last_behind (d ∷ (f ∷ a)) e = last_behind (f ∷ a) e

-- ---- an alarm that is taken

-- p holds what f makes of active record i's alarm, which q holds; f keeps alarms legal
module _
    (b q p : Bytes) (i : ℕ) (f : Alarm → Alarm) (top : ℕ) (h : T (sound b)) (o : OnActive b i) (k : LegalAlarm last_active (alarm_at b i) → LegalAlarm top (f (alarm_at b i)))
    (l : q ≡ (record_of b i).content) (e : p ≡ alarm_bytes (f (read_alarm q))) where
  pub taken_payload : IsAlarm top p × (read_alarm p ≡ f (alarm_at b i))
  taken_payload = changed_payload b h top i f q p o l e k

  -- a step with it is one with the alarm
  pub taken_files : (m : Alarm → Step (Unit {0})) (b' : Bytes) (last : ℕ) → Files (m (read_alarm p)) b b' last → Files (m (f (alarm_at b i))) b b' last
  taken_files m b' last d = subst (λ (a : Alarm). Files (m a) b b' last) taken_payload.1 d

-- ---- a step for each

module _ {A : Type 0} (m : A → Step (Unit {0})) where
  each_none : (b : Bytes) → T (sound b) → Does (for_each [] m) b b tt
  unfolding for_each
  each_none b h = does_give b tt h

  each_first : (a : A) (l : List A) {b c d : Bytes} → Does (m a) b c tt → Does (for_each l m) c d tt → Does (for_each (a ∷ l) m) b d tt
  unfolding for_each
  each_first a l p q = does_then (λ u. for_each l m) p q

-- ---- the chain after a record was taken

book_active : (b : Bytes) → T (sound b) → (read_book b).active ≡ map (on_content alarm_bytes) (station b).active
unfolding book_of
book_active b h = ap (λ k. k.active) (sym (sound_holds b h).read)

-- what stands there after the round has taken record `at`, between others: nothing, or the record with another payload
abbrev left : Round → ℕ → Record → List Record
left Expire cutoff e = []
left Lift cutoff e = entry e.index (alarm_bytes (lifted_by cutoff (read_alarm e.content))) ∷ []

module _ (cutoff : ℕ) (t : Time cutoff) (b c : Bytes) (i : ℕ) (h : T (sound b)) (o : OnActive b i) where
  legal : LegalAlarm last_active (alarm_at b i)
  legal = payload_legal last_active (record_of b i).content (on_alarm b h i o).legal

  gone : Does (retire_due cutoff (entry i (alarm_at b i))) b c tt → (read_book c).active ≡ without i (read_book b).active
  gone d =
      book_active c d.sound
      ∙ ap (map (on_content alarm_bytes)) (does_end d (retire_legal (station b) (sound_holds b h).legal i _ (expired_legal cutoff (alarm_at b i) t legal) (on_station b i o))).1
      ∙ sym (without_map alarm_bytes i (station b).active)
      ∙ ap (without i) (sym (book_active b h))

  renewed : Does (lift_over cutoff (entry i (alarm_at b i))) b c tt → (read_book c).active ≡ replaced i (alarm_bytes (lifted_by cutoff (alarm_at b i))) (read_book b).active
  renewed d =
      book_active c d.sound
      ∙ ap (map (on_content alarm_bytes)) (does_end d (revise_legal (station b) (sound_holds b h).legal i _ (lifted_legal cutoff (alarm_at b i) t legal)))
      ∙ sym (replaced_map alarm_bytes i (lifted_by cutoff (alarm_at b i)) (station b).active)
      ∙ ap (replaced i (alarm_bytes (lifted_by cutoff (alarm_at b i)))) (sym (book_active b h))

  -- record i stood behind a and before r
  after_taken : (round : Round) (a r : List Record) → times i a ≡ 0 → (read_book b).active ≡ a ++ (record_of b i ∷ r) →
      Does (step_of round cutoff (entry i (alarm_at b i))) b c tt → (read_book c).active ≡ (a ++ left round cutoff (record_of b i)) ++ r
  after_taken Expire a r z e d = gone d ∙ ap (without i) e ∙ without_at (record_of b i) r a z ∙ ap (λ (l : List Record). l ++ r) (sym (append-nil a))
  after_taken Lift a r z e d =
      renewed d ∙ ap (replaced i _) e ∙ replace_at i _ a (record_of b i) r refl z ∙ sym (append_assoc a (left Lift cutoff (record_of b i)) r)

last_left_lem : (round : Round) (cutoff : ℕ) (a : List Record) (e : Record) {previous : ℕ} → previous ≡ last_of a → kept_by round previous e.index ≡ last_of (a ++ left round cutoff e)
last_left_lem Expire cutoff a e p = p ∙ ap last_of (sym (append-nil a))
last_left_lem Lift cutoff a e p = sym (last_behind a (entry e.index (alarm_bytes (lifted_by cutoff (read_alarm e.content)))))

-- ---- the sweep

pub sweep_start :
    (round : Round) (cutoff : ℕ) (b : Bytes) (n at : ℕ) (ends : Ends) → Newest b ends.history → n ≡ at32 b 16 → at ≡ at32 b 12 →
    Sweep round cutoff b b n at (record { ends = ends; kept = 0; taken = 0 }) 0
unfolding last_of
sweep_start round cutoff b n at ends w hn ha = record {
  newest = w;
  kept = [];
  rest = (read_book b).active;
  along = along_start w.whole (omega arith) ha;
  left = omega (arith, hn, length_at b (sound_holds b w.whole).book 0 (omega arith));
  before = refl;
  few = omega arith;
  counted = omega arith;
  whole = λ c d. d;
}

module _ (round : Round) (cutoff : ℕ) (b₀ b : Bytes) (n at : ℕ) (s : Stand) (k : ℕ) (w : Sweep round cutoff b₀ b n at s k) where
  module _ (h : k < n) where
    ahead : 1 ≤ length w.rest
    ahead = omega (arith, w.left)

    -- the record that the sweep is at, and those behind it
    abbrev here : Record
    here = record_of b at

    abbrev behind : List Record
    behind = drop 1 w.rest

    shorter : length w.rest ≡ suc (length behind)
    shorter = ap length (along_here w.along ahead)

    once : times at w.kept ≡ 0
    once = along_once w.along ahead

    pub meets_fits : 1536 * at + 1536 ≤ length b
    meets_fits = along_fits w.along ahead

    pub meets_free : CanRelease b 0 at s.kept
    meets_free = record {
      sound = (sound_holds b w.newest.whole).book;
      which = omega arith;
      on = along_on w.along ahead;
      before =
          w.before ∙ sym (last_from_zero w.kept) ∙ sym (prev_at here behind 0 w.kept once)
          ∙ ap (prev_of 0 at) (sym (along_parts w.along ahead));
    }

    abbrev alarm : Alarm
    alarm = alarm_at b at

    -- the rest in terms of the record met
    taken_rest : taken_of round cutoff w.rest ≡ those (on_entry (takes round cutoff)) (entry at alarm ∷ map (on_content read_alarm) behind)
    taken_rest = ap (taken_of round cutoff) (along_here w.along ahead)

    pub sweep_kept : takes round cutoff alarm ≡ false → (r : ℕ) → r ≡ at32 b (1536 * at) → Sweep round cutoff b₀ b n r (record { ends = s.ends; kept = at; taken = s.taken }) (k + 1)
    sweep_kept not_taken r e =
        let d : taken_of round cutoff w.rest ≡ taken_of round cutoff behind = taken_rest ∙ those_miss (on_entry (takes round cutoff)) (entry at alarm) _ not_taken in
        record {
          newest = w.newest;
          kept = w.kept ++ (here ∷ []);
          rest = behind;
          along = along_next w.along ahead e;
          left = omega (arith, w.left, shorter);
          before = sym (last_behind w.kept here);
          few = omega (arith, w.few);
          counted = omega (arith, w.counted, ap length d);
          whole = λ c f. w.whole c (subst (λ (l : List (Entry Alarm)). Does (for_each l (step_of round cutoff)) b c tt) (sym d) f);
        }

    pub sweep_taken :
        Time cutoff → takes round cutoff alarm ≡ true → (c : Bytes) (new : ℕ) → Files (step_of round cutoff (entry at alarm)) b c new → (r before : ℕ) → before ≡ kept_by round s.kept at →
        r ≡ at32 b (1536 * at) → Sweep round cutoff b₀ c n r (record { ends = record { active = s.ends.active; history = new; audit = s.ends.audit }; kept = before; taken = s.taken + 1 }) (k + 1)
    sweep_taken t is-taken c new f r before p e =
        let d : taken_of round cutoff w.rest ≡ entry at alarm ∷ taken_of round cutoff behind = taken_rest ∙ those_hit (on_entry (takes round cutoff)) (entry at alarm) _ is-taken in
        record {
          newest = record { whole = f.does.sound; is = f.is };
          kept = w.kept ++ left round cutoff here;
          rest = behind;
          along = record {
            whole = f.does.sound;
            which = omega arith;
            parts = after_taken cutoff t b c at w.newest.whole (along_on w.along ahead) round w.kept behind once (along_parts w.along ahead) f.does;
            starts = along_link w.along ahead e;
          };
          left = omega (arith, w.left, shorter);
          before = p ∙ last_left_lem round cutoff w.kept here w.before;
          few = omega (arith, w.few);
          counted = omega (arith, w.counted, ap length d);
          whole = λ z g.
              w.whole z (subst (λ (l : List (Entry Alarm)). Does (for_each l (step_of round cutoff)) b z tt) (sym d) (each_first (step_of round cutoff) (entry at alarm) _ f.does g));
        }

  none_taken : length (taken_of round cutoff []) ≡ 0
  unfolding those
  none_taken = refl

  nothing_taken : {b c : Bytes} → Does (for_each [] (step_of round cutoff)) b c tt → Does (for_each (taken_of round cutoff []) (step_of round cutoff)) b c tt
  unfolding those
  nothing_taken d = d

  pub sweep_end : n ≤ k → Swept round cutoff b₀ b s.taken
  sweep_end h = go w.rest refl
    where
      go : (r : List Record) → w.rest ≡ r → Swept round cutoff b₀ b s.taken
      go [] p = record {
        does = w.whole b (subst (λ (l : List Record). Does (for_each (taken_of round cutoff l) (step_of round cutoff)) b b tt) (sym p) (nothing_taken (each_none (step_of round cutoff) b w.newest.whole)));
        number = omega (arith, w.counted, ap (λ (l : List Record). length (taken_of round cutoff l)) p, none_taken);
      }
      go (e ∷ t) p = absurd (omega (arith, w.left, ap length p))

-- ---- the operations

module _ (cutoff : ℕ) (b b' a a' : Bytes) (m n : ℕ) (h : T (sound b)) (w : Put a 0 (head_bytes (head 11 0 m) ++ []) n a') where
  -- a round, answered by how many it took
  went_round : (r : Round) (answer : ℕ → Answer) → head_bytes (head 11 0 m) ++ [] ≡ answer_bytes (answer m) → Swept r cutoff b b' m → Answers (round (takes r cutoff) (step_of r cutoff) answer) b b' a a' n
  unfolding round station station_of
  went_round r answer e s =
      let taken = taken_of r cutoff (read_book b).active in
      answers_put
      (does_then _ (does_look b _ h) (does_then (λ u. give (answer (length taken))) s.does (does_give b' (answer (length taken)) s.does.sound)))
      (put_as (e ∙ ap (λ (k : ℕ). answer_bytes (answer k)) s.number) w)

  pub expires_all : Swept Expire cutoff b b' m → Answers (expire cutoff) b b' a a' n
  unfolding expire
  expires_all s = went_round Expire Expired (answer_as (Expired m) refl refl) s

  pub lifts_all : Swept Lift cutoff b b' m → Answers (lift cutoff) b b' a a' n
  unfolding lift
  lifts_all s = went_round Lift Lifted (answer_as (Lifted m) refl refl) s
