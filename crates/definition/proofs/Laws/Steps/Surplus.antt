-- M-107: no call takes from a free chain that has ended. A step is a function from a station to its outcome, which does not show what was
-- taken on the way. What shows is one record more: behind the free chain, it changes nothing of what the call does, and is still the last
-- there afterwards (`surplus_left`). So it is with every call that is refused or leaves no stray; a stray is an index 0 on a chain, and a
-- legal station has none (`legal_strays`). For the theorem on bytes in `station`.
--
-- Why: a take from an ended chain leaves a stray, and no move takes a stray away. So where none is left, none was there before, and each take
-- found a free record. The laws of steps go this way, from what holds after a step to what held before it. A station with a surplus is not
-- legal, so that the laws of two stations that are alike (AlikeSteps) do not speak of it.
use Rattle.std.specs.Prelude.{ℕ, ◌+◌, ◌≤◌, ◌≡◌, Bool, true, false, cond, eqb, ltb, length, get_or, drop}
use Rattle.std.proofs.Math.Path.{refl, ap}
use Rattle.std.proofs.Common.{◌∙◌, arith, eq-eqb, ne_eqb}
use mathlib.Core.List.{List, [], ◌∷◌, ◌++◌}
use Rattle.std.proofs.Math.Option.{Option, none, some}
use Rattle.std.proofs.Math.Decide.{ℕ_discrete, dec_lt}
use Rattle.octets.specs.Bytes.{Bytes}
use Rattle.definition.specs.Value.{RaiseValue, ClearValue, PlainValue, PolicyValue, CallValue, Action, acknowledging, suppressing, Deed, untimed, until, deed_action}
use Rattle.definition.specs.Chain.{Entry, entry, present, without, times}
use Rattle.definition.specs.Alarm.{Alarm, Event, same_identity}
use Rattle.definition.specs.Station.{Station, Outcome, done, stopped, Step, after, ◌>>=◌, give, refuse, look, for_each, add_active, add_history, add_audit, free_active, oldest_history_of, free_oldest_history, oldest_audit_of, free_oldest_audit, change_active, change_history, count_success, count_failure}
use Rattle.definition.specs.Answer.{Answer, answer_bytes}
use Rattle.definition.specs.Steps.{make_room, extend_history, history_after, into_history, revise, change, retire, store, store_new, raise_at, raise, clear_at, clear, act, plain_at, plain, event_stored, event_lost, attempt, deny, allow, needs_override, policy_at, policy, round, expire, lift}
use Rattle.definition.specs.Reports.{active_list, history_list, counts, summary, take_audit}
use Rattle.definition.specs.Perform.{in_record, in_length, perform}
use Rattle.definition.specs.Clauses.LegalStation.{records, times_in, LegalChains}
use Rattle.definition.proofs.Laws.Steps.LegalMoves.{with_free}
use Rattle.definition.proofs.Laws.Book.Occurrences.{times_last, times_replaced, times_in_cons, up_from_range}

-- s with one record more, z, behind the free chain; and so in what a step leaves
abbrev pub surplus : ℕ → Station → Station
surplus z s = with_free (s.free ++ (z ∷ [])) s

abbrev pub surplus_in : {A : Type 0} → ℕ → Outcome A → Outcome A
surplus_in z (done a s) = done a (surplus z s)
surplus_in z (stopped n) = stopped n

-- how often index 0, the header's, stands on the chains
abbrev pub strays : Station → ℕ
strays s = times 0 s.active + times 0 s.history + times 0 s.audit + times_in 0 s.free

abbrev pub NoStray : Station → Type 0
NoStray s = strays s ≡ 0

-- a step is refused, or the station that it leaves is Q
abbrev pub Leaves : {A : Type 0} → (Station → Type 0) → Outcome A → Type 0
Leaves Q (done a s) = Q s
Leaves Q (stopped n) = Unit {0}

-- each record of a legal station is one of 1, 2, ..
pub legal_strays : (s : Station) → LegalChains s → NoStray s
legal_strays s l = elim (dec_lt 0 (strays s)) [
  | yes p ↦ absurd (omega (arith, (up_from_range 0 (records s) (omega (arith, l.once 0))).0))
  | no p ↦ omega arith
]

-- ---- the moves on their own

-- a take that leaves no stray: there was none, and it found a free record
finds_free : {A : Type 0} (z : ℕ) (c : List (Entry A)) (f : List ℕ) (a : A) → times 0 (c ++ (entry (get_or f 0 0) a ∷ [])) + times_in 0 (drop 1 f) ≡ 0 →
    (times 0 c + times_in 0 f ≡ 0) × (f ++ (z ∷ []) ≡ get_or f 0 0 ∷ (drop 1 f ++ (z ∷ [])))
unfolding times_in
finds_free z c [] a h = absurd (omega (arith, times_last c 0 a 0))
finds_free z c (i ∷ f) a h = (omega (arith, times_last c i a 0), refl)

-- a chain loses at most the record that is freed
off_chain : {A : Type 0} (i : ℕ) (c : List (Entry A)) → times 0 c ≤ times 0 (without i c) + times_in 0 (i ∷ [])
unfolding without times times_in
off_chain i [] = omega arith
off_chain i (e ∷ c) = elim (ℕ_discrete e.index i) [
  | yes p ↦ rw (p, eq-eqb i i refl) (omega arith)
  | no n ↦ rw (ne_eqb e.index i n) (omega (arith, off_chain i c))
]

module _ (z : ℕ) where
  -- ---- where a step is refused or leaves a station that is Q, the surplus record changes nothing, and the station before was P

  record Goes (P Q : Station → Type 0) {A : Type 0} (m : Step A) : Type 0 where
    from : (s : Station) → Leaves Q (m s) → P s × (m (surplus z s) ≡ surplus_in z (m s))

  abbrev Any : Station → Type 0
  Any s = Unit {0}

  -- it may take; where there are strays, it keeps some and is not refused
  abbrev Frugal : {A : Type 0} → Step A → Type 0
  Frugal = Goes NoStray NoStray

  -- it may take, or be refused before it takes
  abbrev Careful : {A : Type 0} → Step A → Type 0
  Careful = Goes Any NoStray

  -- it takes nothing
  abbrev Steady : {A : Type 0} → Step A → Type 0
  Steady = Goes Any Any

  module _ {A : Type 0} {Q : Station → Type 0} where
    looks : {f : Station → A} → ((s : Station) → f (surplus z s) ≡ f s) → Goes Q Q (look f)
    looks h = record { from = λ s p. (p, λ i. done (h s i) (surplus z s)) }

    gives : {a : A} → Goes Q Q (give a)
    gives = looks (λ s. refl)

    refuses : {n : ℕ} → Goes Any Q {A = A} (refuse n)
    refuses = record { from = λ s p. (tt, refl) }

  module _ {A : Type 0} {P Q : Station → Type 0} where
    weaken : {m : Step A} → Goes P Q m → Goes Any Q m
    weaken x = record { from = λ s p. (tt, (x.from s p).1) }

    either : (b : Bool) {m n : Step A} → Goes P Q m → Goes P Q n → Goes P Q (cond b m n)
    either true x y = x
    either false x y = y

    option : {E : Type 0} (k : Option E → Step A) → Goes P Q (k none) → ((e : E) → Goes P Q (k (some e))) → (o : Option E) → Goes P Q (k o)
    option k x y none = x
    option k x y (some e) = y e

  bind : {A B : Type 0} {P Q R : Station → Type 0} {m : Step A} {k : A → Step B} → Goes P Q m → ((a : A) → Goes Q R (k a)) → Goes P R (◌>>=◌ m k)
  unfolding ◌>>=◌
  bind {A} {P = P} {Q} {R} {m} {k} x h = record { from = λ s. go s (m s) (x.from s) }
    where
      go : (s : Station) (o : Outcome A) → (Leaves Q o → P s × (m (surplus z s) ≡ surplus_in z o)) → Leaves R (after o k) →
          P s × (after (m (surplus z s)) k ≡ surplus_in z (after o k))
      go s (done a t) f p = let q = (h a).from t p in let r = f q.0 in (r.0, ap (λ o. after o k) r.1 ∙ q.1)
      go s (stopped n) f p = let r = f tt in (r.0, ap (λ o. after o k) r.1)

  each : {A : Type 0} {P : Station → Type 0} {m : A → Step (Unit {0})} → ((a : A) → Goes P P (m a)) → (l : List A) → Goes P P (for_each l m)
  unfolding for_each
  each x [] = gives
  each x (a ∷ l) = bind (x a) (λ u. each x l)

  -- ---- history

  adds_history : (a : Alarm) → Frugal (add_history a)
  unfolding add_history
  adds_history a = record {
    from = λ s p. let g = finds_free z s.history s.free a (omega arith) in (omega (arith, g.0), ap (λ f. add_history a (with_free f s)) g.1);
  }

  frees_history : Frugal free_oldest_history
  unfolding free_oldest_history times times_in
  frees_history = record { from = λ s. go s s.history refl }
    where
      go : (s : Station) (c : List (Entry Alarm)) → s.history ≡ c → Leaves NoStray (oldest_history_of c s) →
          NoStray s × (oldest_history_of c (surplus z s) ≡ surplus_in z (oldest_history_of c s))
      go s [] q p = (p, refl)
      go s (e ∷ c) q p = (omega (arith, ap (times 0) q), refl)

  into_history_lem : (a : Alarm) → Frugal (into_history a)
  unfolding into_history history_after extend_history make_room change_history
  into_history_lem a =
      let extends = bind (bind (looks (λ s. refl)) (λ b. either b frees_history gives)) (λ u. adds_history a) in
      bind (looks (λ s. refl)) (option _ extends (λ e.
      either (same_identity e.content a) (record { from = λ s p. (omega (arith, times_replaced e.index a 0 s.history), refl) }) extends))

  -- ---- the active chain

  adds_active : (a : Alarm) → Frugal (add_active a)
  unfolding add_active
  adds_active a = record {
    from = λ s p. let g = finds_free z s.active s.free a (omega arith) in (omega (arith, g.0), ap (λ f. add_active a (with_free f s)) g.1);
  }

  revises : (i : ℕ) (a : Alarm) → Frugal (revise i a)
  unfolding revise change_active
  revises i a = bind (record { from = λ s p. (omega (arith, times_replaced i a 0 s.active), refl) }) (λ u. into_history_lem a)

  changes : (answer : Alarm → Answer) (i : ℕ) (a : Alarm) → Frugal (change answer i a)
  unfolding change
  changes answer i a = bind (revises i a) (λ u. gives)

  retires : (i : ℕ) (a : Alarm) → Frugal (retire i a)
  unfolding retire free_active
  retires i a = bind (record { from = λ s p. (omega (arith, off_chain i s.active, times_in_cons 0 i s.free), refl) }) (λ u. into_history_lem a)

  stores : (a : Alarm) → Frugal (store a)
  unfolding store
  stores a = bind (adds_active a) (λ u. bind (into_history_lem a) (λ v. gives))

  stores_new : (a : Alarm) → Careful (store_new a)
  unfolding store_new
  stores_new a = bind (looks (λ s. refl)) (λ o. either (present o) refuses (weaken (stores a)))

  raises : (c : RaiseValue) → Careful (raise c)
  unfolding raise raise_at
  raises c =
      bind (looks (λ s. refl)) (option _
      (bind (looks (λ s. refl)) (λ b. either b (weaken (looks (λ s. refl))) (stores_new _)))
      (λ e. weaken (changes _ e.index _)))

  clears : (c : ClearValue) → Frugal (clear c)
  unfolding clear clear_at
  clears c = bind (looks (λ s. refl)) (option _ gives (λ e. bind (retires e.index _) (λ u. gives)))

  rounds : (t : Alarm → Bool) (m : Entry Alarm → Step (Unit {0})) (answer : ℕ → Answer) → ((e : Entry Alarm) → Frugal (m e)) → Frugal (round t m answer)
  unfolding round
  rounds t m answer x = bind (looks (λ s. refl)) (λ d. bind (each x d) (λ u. gives))

  expires : (t : ℕ) → Frugal (expire t)
  unfolding expire
  expires t = rounds _ _ _ (λ e. retires e.index _)

  lifts : (t : ℕ) → Frugal (lift t)
  unfolding lift
  lifts t = rounds _ _ _ (λ e. revises e.index _)

  acts_plain : (x : Action) (p : PlainValue) → Frugal (plain x p)
  unfolding plain plain_at act
  acts_plain x p = either (eqb p.authorised 0) gives (bind (looks (λ s. refl)) (option _ gives (λ e. changes _ _ _)))

  -- ---- audit

  adds_audit : (v : Event) → Frugal (add_audit v)
  unfolding add_audit
  adds_audit v = record {
    from = λ s p. let g = finds_free z s.audit s.free v (omega arith) in (omega (arith, g.0), ap (λ f. add_audit v (with_free f s)) g.1);
  }

  frees_audit : Steady free_oldest_audit
  unfolding free_oldest_audit
  frees_audit = record { from = λ s p. (tt, go s s.audit) }
    where
      go : (s : Station) (c : List (Entry Event)) → oldest_audit_of c (surplus z s) ≡ surplus_in z (oldest_audit_of c s)
      go s [] = refl
      go s (e ∷ c) = refl

  attempts : (v : Event) → Frugal (attempt v)
  unfolding attempt event_lost event_stored count_failure count_success
  attempts v =
      bind (looks (λ s. refl)) (λ b.
      either b (bind (record { from = λ s p. (p, refl) }) (λ u. gives))
      (bind (adds_audit v) (λ u. bind (record { from = λ s p. (p, refl) }) (λ w. gives))))

  denies : (v : Event) (m : Bytes) → Frugal (deny v m)
  unfolding deny
  denies v m = bind (attempts v) (λ b. gives)

  acts_policy : (d : Deed) (p : PolicyValue) → Frugal (policy d p)
  unfolding policy policy_at allow act
  acts_policy d p = bind (looks (λ s. refl)) (option _ gives (λ e.
      either (needs_override (deed_action d) p e.content) (denies _ _)
      (either (eqb p.verdict.authorised 0) (denies _ _) (bind (attempts _) (λ b. either b (changes _ _ _) gives)))))

  gives_events : (n : ℕ) → Steady (take_audit n)
  unfolding take_audit
  gives_events n = bind (looks (λ s. refl)) (λ d. bind (each (λ e. frees_audit) d) (λ u. gives))

  -- ---- the calls

  in_record_lem : (n : ℕ) {P : Station → Type 0} {m : Step Answer} → Goes P NoStray m → Careful (in_record n m)
  unfolding in_record
  in_record_lem n x = either (ltb n 1552) refuses (weaken x)

  in_length_lem : (n : ℕ) {m : Step Answer} → Steady m → Careful (in_length n m)
  unfolding in_length
  in_length_lem n x = bind x (λ a. either (ltb n (length (answer_bytes a))) refuses (weaken gives))

  performs : (c : CallValue) (n : ℕ) → Careful (perform c n)
  unfolding perform active_list history_list counts summary
  performs (CallValue.raise c) n = in_record_lem n (raises c)
  performs (CallValue.clear c) n = in_record_lem n (clears c)
  performs (CallValue.plain acknowledging p) n = in_record_lem n (acts_plain acknowledging p)
  performs (CallValue.plain suppressing p) n = in_record_lem n (acts_plain suppressing p)
  performs (CallValue.policy (untimed acknowledging) p) n = in_record_lem n (acts_policy (untimed acknowledging) p)
  performs (CallValue.policy (untimed suppressing) p) n = in_record_lem n (acts_policy (untimed suppressing) p)
  performs (CallValue.policy (until t) p) n = in_record_lem n (acts_policy (until t) p)
  performs (CallValue.expire t) n = in_record_lem n (expires t)
  performs (CallValue.active v) n = in_length_lem n (looks (λ s. refl))
  performs (CallValue.history t l) n = in_length_lem n (looks (λ s. refl))
  performs CallValue.counts n = in_length_lem n (looks (λ s. refl))
  performs CallValue.summary n = in_record_lem n (looks (λ s. refl))
  performs (CallValue.take_audit k) n = in_length_lem n (gives_events k)
  performs (CallValue.lift t) n = in_record_lem n (lifts t)
  performs (CallValue.refused k) n = in_length_lem n refuses

  -- what the call does with a record more is what it does without
  pub surplus_left : (c : CallValue) (n : ℕ) (s : Station) → Leaves NoStray (perform c n s) → perform c n (surplus z s) ≡ surplus_in z (perform c n s)
  surplus_left c n s h = ((performs c n).from s h).1
