-- Every call on twins leaves twins: policy calls, reports, and all calls together. For the claim, and for KeptLegal.
use Rattle.std.specs.Prelude.{ℕ, ◌≡◌, refl, Bool, false, eqb, ltb, take, drop, get_or}
use Rattle.std.proofs.Common.{sym, ◌∙◌, arith}
use Rattle.std.proofs.Math.Path.{ap, ap₂, subst}
use mathlib.Core.List.{List, [], ◌∷◌, ◌++◌, map}
use Rattle.std.proofs.Math.Option.{Option, some}
use Rattle.std.proofs.Math.Dec.{leb}
use Rattle.std.proofs.Math.ListN.{length}
use borrow.Author.Tests.{leb-false}
use Rattle.octets.specs.Bytes.{Bytes, same}
use Rattle.octets.specs.BoolLaws.{either_on}
use Rattle.definition.specs.Value.{RaiseValue, PolicyValue, CallValue, op_of, Action, acknowledging, suppressing, Deed, untimed, until, deed_action, deed_end}
use Rattle.definition.specs.Chain.{Entry, entry, contents, those}
use Rattle.definition.proofs.Laws.Book.Contents.{map_map, those_map}
use Rattle.definition.specs.Alarm.{Alarm, Event, has_id, has_severity, in_scope, is_critical}
use Rattle.definition.specs.Station.{Station, Step, ◌>>◌, give, for_each, add_audit, oldest_audit_of, free_oldest_audit, one_more, count_success, count_failure}
use Rattle.definition.specs.Answer.{Answer, Alarms, Counts, Summary, Events, answer_bytes}
use Rattle.definition.proofs.Laws.Steps.Answers.{size_blank, blank_answer, kind_of}
use Rattle.definition.specs.Steps.{event_stored, event_lost, attempt, event_of, deny, allow, needs_override, policy_at, policy}
use Rattle.definition.specs.Reports.{active_list, history_list, rating, tally, counts, on_headline, severity_of, headline, worst, worst_impact, summary, free_one, take_audit}
use Rattle.definition.specs.Perform.{step_for, in_length, asks_record, in_room, perform}
use Rattle.definition.specs.Numbers.{call_refusals, sound_refusals, among, Among}
use Rattle.definition.specs.Clauses.LegalFields.{Time, Maybe, LegalEvent, LegalPolicy, LegalCall}
use Rattle.definition.proofs.Laws.Steps.ChangedLegal.{event_legal}
use Rattle.definition.proofs.Laws.Steps.LegalMoves.{add_audit_legal, free_oldest_audit_legal, count_success_legal, count_failure_legal}
use Rattle.definition.proofs.Laws.Twins.Blank.{blank}
use Rattle.definition.specs.Twins.{AtEach}
use Rattle.definition.proofs.Laws.Steps.PairedChains.{length_each}
use Rattle.definition.proofs.Laws.Steps.SideBySide.{Match, meet, Related, Only, give_related, look_related, refuse_related, cond_related, cond_both, pre_related, known_related, bind_related, then_related, test_related}
use Rattle.definition.proofs.Laws.Steps.Alike.{BothLegal, On, Told, worded, go_on, search_like}
use Rattle.definition.proofs.Laws.Steps.AlikeSteps.{told, quiet, act_like, raise_like, clear_like, plain_like, expire_like, lift_like, in_record_like}
use Rattle.definition.proofs.Laws.Twins.TwinStations.{TwinAt, TwinRest, twin, twin_lasts}

-- ---- audit

module _ (n : ℕ) (d d' : List (Entry Alarm)) where
  abbrev Here : Station → Station → Type 0
  Here = On twin n d d'

  add_audit_lem : (v : Event) → LegalEvent v → Related (λ s t. Here s t × (leb s.limit_e (length s.audit) ≡ false)) (Only Here) (add_audit v) (add_audit v)
  unfolding add_audit
  add_audit_lem v h = record {
    from = λ s t (p, q).
        let r = p.rest in
        let room = leb-false s.limit_e (length s.audit) q in
        meet {R = TwinRest} (add_audit_legal s p.legal v h room) (add_audit_legal t p.legal' v h (omega (arith, room, r.limits.1, ap length r.audit)))
        (record {
          limits = r.limits;
          history = r.history;
          audit = ap₂ (λ c f. c ++ (entry (get_or f 0 0) v ∷ [])) r.audit r.free;
          free = ap (drop 1) r.free;
          counters = r.counters;
        }) (λ s' t' x y z. go_on p x y z);
  }

  count_success_lem : Related Here (Only Here) count_success count_success
  unfolding count_success
  count_success_lem = record {
    from = λ s t p. let r = p.rest in
        meet {R = TwinRest} (count_success_legal s p.legal) (count_success_legal t p.legal')
        (record { limits = r.limits; history = r.history; audit = r.audit; free = r.free; counters = (ap one_more r.counters.0, r.counters.1) }) (λ s' t' x y z. go_on p x y z);
  }

  count_failure_lem : Related Here (Only Here) count_failure count_failure
  unfolding count_failure
  count_failure_lem = record {
    from = λ s t p. let r = p.rest in
        meet {R = TwinRest} (count_failure_legal s p.legal) (count_failure_legal t p.legal')
        (record { limits = r.limits; history = r.history; audit = r.audit; free = r.free; counters = (r.counters.0, ap one_more r.counters.1) }) (λ s' t' x y z. go_on p x y z);
  }

  free_audit : Related Here (Only Here) free_oldest_audit free_oldest_audit
  unfolding free_oldest_audit
  free_audit = record {
    from = λ s t p. let r = p.rest in
        meet {R = TwinRest} (free_oldest_audit_legal s p.legal) (free_oldest_audit_legal t p.legal')
        (subst (λ (c : List (Entry Event)). Match TwinRest (oldest_audit_of s.audit s) (oldest_audit_of c t)) r.audit (go s t r s.audit)) (λ s' t' x y z. go_on p x y z);
  }
    where
      go : (s t : Station) → TwinRest s t → (c : List (Entry Event)) → Match TwinRest (oldest_audit_of c s) (oldest_audit_of c t)
      go s t r [] = r
      go s t r (e ∷ c) = record { limits = r.limits; history = r.history; audit = refl; free = ap (◌∷◌ e.index) r.free; counters = r.counters }

  -- on both, or on neither
  abbrev Stored : Bool → Bool → Station → Station → Type 0
  Stored b b' s t = (b ≡ b') × Here s t

  attempt_twin : (v v' : Event) → v ≡ v' → LegalEvent v → Related Here Stored (attempt v) (attempt v')
  unfolding attempt event_lost event_stored
  attempt_twin v v' e h = subst (λ (w : Event). Related Here Stored (attempt v) (attempt w)) e
      (test_related _ (λ s t p. ap₂ leb p.rest.limits.1 (ap length p.rest.audit))
      (pre_related (λ s t p. p.0) (then_related count_failure_lem (give_related (λ s t p. (refl, p)))))
      (then_related (add_audit_lem v h) (then_related count_success_lem (give_related (λ s t p. (refl, p))))))

-- ---- policy

abbrev Twin : ℕ → Station → Station → Type 0
Twin n = On twin n [] []

deny_twin : {n : ℕ} {d d' : List (Entry Alarm)} (v v' : Event) (m : Bytes) → v ≡ v' → LegalEvent v → Related (On twin n d d') (Told twin 0 n) (deny v m) (deny v' m)
unfolding deny
deny_twin {n} {d} {d'} v v' m e h = bind_related (attempt_twin n d d' v v' e h) (λ b b'. pre_related (λ s t p. p.1) (quiet twin_lasts refl refl))

allow_twin : {n : ℕ} (d : Deed) (t : ℕ) (v v' : Event) (e e' : Entry Alarm) → TwinAt e e' → BothLegal 3 e.content e'.content → Maybe Time (deed_end d) → Time t → v ≡ v' → LegalEvent v →
    Related (On twin n (e ∷ []) (e' ∷ [])) (Told twin 0 n) (allow d t v e) (allow d t v' e')
unfolding allow
allow_twin {n} d t v v' e e' w g z u q h = bind_related (attempt_twin n (e ∷ []) (e' ∷ []) v v' q h) (λ b b'.
    known_related (λ s t p. p.0) (λ y. pre_related (λ s t p. p.1) (cond_both y (act_like twin_lasts d t z u e e' w g) (quiet twin_lasts refl refl))))

override_twin : (x : Action) (p : PolicyValue) (a a' : Alarm) → blank a ≡ blank a' → needs_override x p a ≡ needs_override x p a'
unfolding needs_override is_critical
override_twin acknowledging p a a' h = refl
override_twin suppressing p a a' h = ap (needs_override suppressing p) h

policy_at_twin : {n : ℕ} (d : Deed) (p : PolicyValue) → LegalPolicy p → Maybe Time (deed_end d) → (e e' : Entry Alarm) → TwinAt e e' → BothLegal 3 e.content e'.content →
    Related (On twin n (e ∷ []) (e' ∷ [])) (Told twin 0 n) (policy_at d p (some e)) (policy_at d p (some e'))
unfolding policy_at event_of
policy_at_twin d p h z e e' w g =
    let q = w.1 in
    let x = deed_action d in
    cond_both (override_twin x p e.content e'.content q) (deny_twin _ _ _ (ap (event_of x 1 p) q) (event_legal x 1 p e.content (omega arith) h g.0))
    (cond_related (eqb p.verdict.authorised 0) (deny_twin _ _ _ (ap (event_of x 1 p) q) (event_legal x 1 p e.content (omega arith) h g.0))
    (allow_twin d _ _ _ e e' w g z h.time (ap (event_of x 0 p) q) (event_legal x 0 p e.content (omega arith) h g.0)))

policy_twin : {n : ℕ} (d : Deed) (p : PolicyValue) → LegalPolicy p × Maybe Time (deed_end d) → Related (Twin n) (Told twin 0 n) (policy d p) (policy d p)
unfolding policy policy_at
policy_twin d p (h, z) =
    search_like twin_lasts _ _ (has_id p.actor.id) (λ e e' q. ap (same p.actor.id) (twin_lasts.ids {e = e} {e' = e'} q)) (λ s t q. q) (quiet twin_lasts refl refl) (policy_at_twin d p h z)

-- ---- reports

blanks_twin : (c c' : List (Entry Alarm)) → AtEach TwinAt c c' → map blank (contents c) ≡ map blank (contents c')
blanks_twin [] [] h = refl
blanks_twin [] (e ∷ c) h = absurd h
blanks_twin (e ∷ c) [] h = absurd h
blanks_twin (e ∷ c) (e' ∷ c') h = ap₂ ◌∷◌ h.0.1 (blanks_twin c c' h.1)

-- what a blind test finds
listed : (t : Alarm → Bool) → ((a : Alarm) → t (blank a) ≡ t a) → (c c' : List (Entry Alarm)) → AtEach TwinAt c c' →
    blank_answer (Alarms (those t (contents c))) ≡ blank_answer (Alarms (those t (contents c')))
listed t b c c' h = ap Alarms (sym (those_map blank t t b (contents c)) ∙ ap (those t) (blanks_twin c c' h) ∙ those_map blank t t b (contents c'))

-- what a blind function sees
seen : {B : Type 0} (f : List Alarm → B) → ((l : List Alarm) → f (map blank l) ≡ f l) → (c c' : List (Entry Alarm)) → AtEach TwinAt c c' → f (contents c) ≡ f (contents c')
seen f b c c' h = sym (b (contents c)) ∙ ap f (blanks_twin c c' h) ∙ b (contents c')

headline_blind : (l : List Alarm) → headline (map blank l) ≡ headline l
headline_blind l = ap (map severity_of) (those_map blank on_headline on_headline (λ a. refl) l) ∙ map_map severity_of blank (those on_headline l)

active_list_twin : {n : ℕ} (v : ℕ) → Related (Twin n) (Told twin 8 n) (active_list v) (active_list v)
unfolding active_list
active_list_twin v = look_related (λ s t p. told twin_lasts (listed (has_severity v) (λ a. refl) s.active t.active p.pairs) refl (omega arith) s t p)

history_list_twin : {n : ℕ} (u w : Option Bytes) → Related (Twin n) (Told twin 8 n) (history_list u w) (history_list u w)
unfolding history_list
history_list_twin u w = look_related (λ s t p. told twin_lasts (listed (in_scope u w) (λ a. refl) s.history t.history p.rest.history) refl (omega arith) s t p)

counts_twin : {n : ℕ} → Related (Twin n) (Told twin 0 n) counts counts
unfolding counts
counts_twin = look_related (λ s t p. told twin_lasts (ap (λ l. Counts (tally l)) (seen (map rating) (map_map rating blank) s.active t.active p.pairs)) refl (omega arith) s t p)

summary_twin : {n : ℕ} → Related (Twin n) (Told twin 0 n) summary summary
unfolding summary
summary_twin = look_related (λ s t p.
    let v = seen headline headline_blind s.active t.active p.pairs in
    let z = length_each TwinAt s.active t.active p.pairs in
    let r = p.rest.counters in
    told twin_lasts (λ i. Summary (record { active = z i; worst = worst (v i); readiness = worst_impact (v i); successes = r.0 i; failures = r.1 i })) refl (omega arith) s t p)

frees_twin : {n : ℕ} (d : List (Entry Event)) → Related (Twin n) (Only (Twin n)) (for_each d free_one) (for_each d free_one)
unfolding for_each
frees_twin [] = give_related (λ s t p. p)
frees_twin {n} (e ∷ d) = then_related (free_audit n [] []) (frees_twin d)

take_audit_twin : {n : ℕ} (i : ℕ) → Related (Twin n) (Told twin 0 n) (take_audit i) (take_audit i)
unfolding take_audit
take_audit_twin {n} i =
    bind_related {Q = λ d d' s t. (d ≡ d') × Twin n s t} (look_related (λ s t p. (ap (take i) p.rest.audit, p)))
    (λ d d'. known_related (λ s t p. p.0) (λ e. pre_related (λ s t p. p.1)
    (subst (λ (c : List (Entry Event)). Related (Twin n) (Told twin 0 n) (◌>>◌ (for_each d free_one) (give (Events (contents d)))) (◌>>◌ (for_each c free_one) (give (Events (contents c))))) e
    (then_related (frees_twin d) (quiet twin_lasts refl refl)))))

-- ---- calls

pub size_twin : (x x' : Answer) → blank_answer x ≡ blank_answer x' → length (answer_bytes x) ≡ length (answer_bytes x')
size_twin x x' h = sym (size_blank x) ∙ ap (λ y. length (answer_bytes y)) h ∙ size_blank x'

in_length_twin : {i n : ℕ} (k : ℕ) {m m' : Step Answer} → Related (Twin n) (Told twin i n) m m' → Related (Twin n) (Told twin i n) (in_length k m) (in_length k m')
unfolding in_length
in_length_twin {i} {n} k x = bind_related x (λ a a'. known_related (λ s t p. p.says) (λ e.
    cond_both (ap (ltb k) (size_twin a a' e)) (refuse_related tt) (give_related (λ s t p. p))))

in_room_twin : {i n : ℕ} (op k : ℕ) {m m' : Step Answer} → Related (Twin n) (Told twin i n) m m' → Related (Twin n) (Told twin i n) (in_room op k m) (in_room op k m')
in_room_twin op k x = cond_related (asks_record op) (in_record_like twin_lasts k x) (in_length_twin k x)

-- the same call, or a raise in other words
pub data TwinCalls : CallValue → CallValue → Type 0 where
  alike : (c : CallValue) → TwinCalls c c
  reworded : (c : RaiseValue) (t : Bytes) (d : Option Bytes) → TwinCalls (CallValue.raise c) (CallValue.raise (worded t d c))

-- ---- a call's own refusals are among those on a sound register

listed_before : (n : ℕ) (l r : List ℕ) → Among n l → Among n (l ++ r)
listed_before n [] r h = absurd h
listed_before n (k ∷ l) r h = either_on (eqb n k) (among n l) (among n (l ++ r)) (listed_before n l r) h

pub call_listed : (n : ℕ) → Among n call_refusals → Among n sound_refusals
call_listed n h = listed_before n call_refusals (drop (length call_refusals) sound_refusals) h

step_twin : {n : ℕ} (c : CallValue) → LegalCall c → Related (Twin n) (Told twin (kind_of (op_of c)) n) (step_for c) (step_for c)
step_twin (CallValue.raise c) h = raise_like twin_lasts {c = c} {w = c.text} {d = c.details} tt h h
step_twin (CallValue.clear c) h = clear_like twin_lasts c h
step_twin (CallValue.plain acknowledging p) h = plain_like twin_lasts acknowledging p h
step_twin (CallValue.plain suppressing p) h = plain_like twin_lasts suppressing p h
step_twin (CallValue.policy (untimed acknowledging) p) h = policy_twin (untimed acknowledging) p h
step_twin (CallValue.policy (untimed suppressing) p) h = policy_twin (untimed suppressing) p h
step_twin (CallValue.policy (until t) p) h = policy_twin (until t) p h
step_twin (CallValue.expire t) h = expire_like twin_lasts t h
step_twin (CallValue.active v) h = active_list_twin v
step_twin (CallValue.history t l) h = history_list_twin t l
step_twin CallValue.counts h = counts_twin
step_twin CallValue.summary h = summary_twin
step_twin (CallValue.take_audit i) h = take_audit_twin i
step_twin (CallValue.lift t) h = lift_like twin_lasts t h
step_twin (CallValue.refused i) h = refuse_related (call_listed i h)

pub perform_twin : {n : ℕ} {c c' : CallValue} (k : ℕ) → TwinCalls c c' → LegalCall c → LegalCall c' → Related (Twin n) (Told twin (kind_of (op_of c)) n) (perform c k) (perform c' k)
unfolding perform
perform_twin k (alike c) h h' = in_room_twin (op_of c) k (step_twin c h)
perform_twin k (reworded c t d) h h' = in_room_twin 1 k (raise_like twin_lasts {c = c} {w = t} {d = d} tt h h')
