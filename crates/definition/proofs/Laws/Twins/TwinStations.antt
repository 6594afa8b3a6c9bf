-- Twins, an instance of what is alike: two stations that differ in texts and details only. They last, whatever move is made on both. For
-- the laws of calls (TwinSteps).
use Rattle.std.specs.Prelude.{ℕ, ◌≤◌, ◌<◌, ◌≡◌, refl, Bool, true, false, cond, eqb, length, drop}
use Rattle.std.proofs.Math.Path.{ap, ap₂, subst}
use mathlib.Core.List.{List, [], ◌∷◌}
use Rattle.std.proofs.Math.Option.{Option, none, some}
use Rattle.std.proofs.Common.{arith}
use Rattle.std.proofs.Math.Dec.{leb}
use Rattle.std.proofs.Math.ListN.{get_or}
use borrow.Author.Tests.{leb-true, leb-false}
use Rattle.definition.specs.Chain.{Entry, entry, newest, replaced}
use Rattle.definition.specs.Alarm.{Alarm, same_identity, is_due, is_over}
use Rattle.definition.specs.Station.{Station, add_history, oldest_history_of, free_oldest_history, change_history}
use Rattle.definition.specs.Answer.{Raised, Updated, Acknowledged, Suppressed}
use Rattle.definition.specs.Value.{Action, acknowledging, suppressing}
use Rattle.definition.specs.Steps.{make_room, extend_history, history_after, into_history, updated_by, new_alarm, cleared_by, action_answer, acted_on, expired_by, lifted_by}
use Rattle.definition.proofs.Laws.Steps.LegalMoves.{add_history_legal, free_oldest_history_legal, change_history_legal}
use Rattle.definition.proofs.Laws.Steps.Answers.{blank_answer}
use Rattle.definition.proofs.Laws.Twins.Blank.{blank}
use Rattle.definition.specs.Twins.{AtEach}
use Rattle.definition.proofs.Laws.Steps.PairedChains.{length_each, last_each}
use Rattle.definition.proofs.Laws.Steps.SideBySide.{Match, meet, Related, Only, give_related, look_related, cond_both, pre_related, known_related, bind_related, then_related, test_related}
use Rattle.definition.proofs.Laws.Steps.Alike.{Likeness, BothLegal, On, Lasting, go_on}

-- ---- twins

abbrev pub TwinAlarms : Alarm → Alarm → Type 0
TwinAlarms a a' = blank a ≡ blank a'

abbrev pub TwinAt : Entry Alarm → Entry Alarm → Type 0
TwinAt e e' = (e.index ≡ e'.index) × TwinAlarms e.content e'.content

-- all but the active chains
abbrev pub TwinRest : Station → Station → Type 0
TwinRest s t =
    record {
      limits : (s.limit_h ≡ t.limit_h) × (s.limit_e ≡ t.limit_e);
      history : AtEach TwinAt s.history t.history;
      audit : s.audit ≡ t.audit;
      free : s.free ≡ t.free;
      counters : (s.successes ≡ t.successes) × (s.failures ≡ t.failures);
    }

abbrev pub twin : Likeness
twin =
    record {
      Pair = TwinAt;
      New = TwinAlarms;
      Past = TwinAlarms;
      Rest = TwinRest;
      Says = λ x x'. blank_answer x ≡ blank_answer x';
      Raise = λ c c'. Unit {0};
    }

-- ---- history

replaced_twin : (i : ℕ) (a a' : Alarm) → TwinAlarms a a' → (c c' : List (Entry Alarm)) → AtEach TwinAt c c' → AtEach TwinAt (replaced i a c) (replaced i a' c')
unfolding replaced
replaced_twin i a a' h [] [] p = tt
replaced_twin i a a' h [] (e ∷ c) p = absurd p
replaced_twin i a a' h (e ∷ c) [] p = absurd p
replaced_twin i a a' h (e ∷ c) (e' ∷ c') p =
    subst (λ (b : Bool). AtEach TwinAt (cond (eqb e.index i) (entry i a ∷ c) (e ∷ replaced i a c)) (cond b (entry i a' ∷ c') (e' ∷ replaced i a' c')))
    (ap (λ (j : ℕ). eqb j i) p.0.0) (go (eqb e.index i) (replaced_twin i a a' h c c' p.1))
  where
    go : (b : Bool) → AtEach TwinAt (replaced i a c) (replaced i a' c') →
        AtEach TwinAt (cond b (entry i a ∷ c) (e ∷ replaced i a c)) (cond b (entry i a' ∷ c') (e' ∷ replaced i a' c'))
    go true q = ((refl, h), p.1)
    go false q = (p.0, q)

module _ (n : ℕ) (d d' : List (Entry Alarm)) where
  abbrev Here : Station → Station → Type 0
  Here = On twin n d d'

  -- with room in history
  abbrev BelowLimits : Station → Station → Type 0
  BelowLimits s t = Here s t × (length s.history < s.limit_h)

  same_length : (s t : Station) → Here s t → length s.history ≡ length t.history
  same_length s t p = length_each TwinAt s.history t.history p.rest.history

  add_history_lem : {a a' : Alarm} → TwinAlarms a a' → BothLegal 5 a a' → Related BelowLimits (Only Here) (add_history a) (add_history a')
  unfolding add_history
  add_history_lem {a} {a'} h (g, g') = record {
    from = λ s t (p, room).
        let r = p.rest in
        meet {R = TwinRest} (add_history_legal s p.legal a g room) (add_history_legal t p.legal' a' g' (omega (arith, room, same_length s t p, r.limits.0)))
        (record {
          limits = r.limits;
          history = last_each TwinAt s.history t.history r.history (ap (λ f. get_or f 0 0) r.free, h);
          audit = r.audit;
          free = ap (drop 1) r.free;
          counters = r.counters;
        }) (λ s' t' x y z. go_on p x y z);
  }

  change_history_lem : (i : ℕ) {a a' : Alarm} → TwinAlarms a a' → BothLegal 5 a a' → Related Here (Only Here) (change_history i a) (change_history i a')
  unfolding change_history
  change_history_lem i {a} {a'} h (g, g') = record {
    from = λ s t p.
        let r = p.rest in
        meet {R = TwinRest} (change_history_legal s p.legal i a g) (change_history_legal t p.legal' i a' g')
        (record { limits = r.limits; history = replaced_twin i a a' h s.history t.history r.history; audit = r.audit; free = r.free; counters = r.counters })
        (λ s' t' x y z. go_on p x y z);
  }

  free_oldest : Related (λ s t. Here s t × (s.limit_h ≤ length s.history)) (Only BelowLimits) free_oldest_history free_oldest_history
  unfolding free_oldest_history
  free_oldest = record {
    from = λ s t (p, full).
        meet {R = TwinRest} (free_oldest_history_legal s p.legal full) (free_oldest_history_legal t p.legal' (omega (arith, full, same_length s t p, p.rest.limits.0)))
        (go s t p s.history t.history p.rest.history) (λ s' t' x y z. (go_on p x.0 y.0 z, x.1));
  }
    where
      go : (s t : Station) → Here s t → (c c' : List (Entry Alarm)) → AtEach TwinAt c c' → Match TwinRest (oldest_history_of c s) (oldest_history_of c' t)
      go s t p [] [] h = p.rest
      go s t p [] (e ∷ c) h = absurd h
      go s t p (e ∷ c) [] h = absurd h
      go s t p (e ∷ c) (e' ∷ c') h = let r = p.rest in record { limits = r.limits; history = h.1; audit = r.audit; free = ap₂ ◌∷◌ h.0.0 r.free; counters = r.counters }

  make_room_lem : Related Here (Only BelowLimits) make_room make_room
  unfolding make_room
  make_room_lem =
      test_related _ (λ s t p. ap₂ leb p.rest.limits.0 (same_length s t p))
      (pre_related (λ s t (p, q). (p, leb-true s.limit_h (length s.history) q)) free_oldest)
      (give_related (λ s t (p, q). (p, leb-false s.limit_h (length s.history) q)))

  extend_history_lem : {a a' : Alarm} → TwinAlarms a a' → BothLegal 5 a a' → Related Here (Only Here) (extend_history a) (extend_history a')
  unfolding extend_history
  extend_history_lem h g = then_related make_room_lem (add_history_lem h g)

  -- the newest of both
  abbrev Newest : Option (Entry Alarm) → Option (Entry Alarm) → Type 0
  Newest none none = Unit {0}
  Newest (some e) (some e') = TwinAt e e'
  Newest none (some e) = ⊥
  Newest (some e) none = ⊥

  newest_twin : (c c' : List (Entry Alarm)) → AtEach TwinAt c c' → Newest (newest c) (newest c')
  unfolding newest
  newest_twin [] [] h = tt
  newest_twin [] (e ∷ c) h = absurd h
  newest_twin (e ∷ c) [] h = absurd h
  newest_twin (e ∷ []) (e' ∷ []) h = h.0
  newest_twin (e ∷ []) (e' ∷ (x ∷ c)) h = absurd h.1
  newest_twin (e ∷ (x ∷ c)) (e' ∷ []) h = absurd h.1
  newest_twin (e ∷ (x ∷ c)) (e' ∷ (x' ∷ c')) h = newest_twin (x ∷ c) (x' ∷ c') h.1

  history_after_lem : {a a' : Alarm} → TwinAlarms a a' → BothLegal 5 a a' → (o o' : Option (Entry Alarm)) → Newest o o' → Related Here (Only Here) (history_after a o) (history_after a' o')
  unfolding history_after same_identity
  history_after_lem h g none none p = extend_history_lem h g
  history_after_lem {a} {a'} h g (some e) (some e') p =
      subst (λ (i : ℕ). Related Here (Only Here) (history_after a (some e)) (cond (same_identity e'.content a') (change_history i a') (extend_history a'))) p.0
      (cond_both (ap₂ same_identity p.1 h) (change_history_lem e.index h g) (extend_history_lem h g))
  history_after_lem h g none (some e) p = absurd p
  history_after_lem h g (some e) none p = absurd p

  into_history_lem : {a a' : Alarm} → TwinAlarms a a' → BothLegal 5 a a' → Related Here (Only Here) (into_history a) (into_history a')
  unfolding into_history
  into_history_lem h g =
      bind_related {Q = λ o o' s t. Newest o o' × Here s t} (look_related (λ s t p. (newest_twin s.history t.history p.rest.history, p)))
      (λ o o'. known_related (λ s t p. p.0) (λ q. pre_related (λ s t p. p.1) (history_after_lem h g o o' q)))

-- ---- twins last

says_acted_lem : (x : Action) (a a' : Alarm) → blank a ≡ blank a' → blank_answer (action_answer x a) ≡ blank_answer (action_answer x a')
says_acted_lem acknowledging a a' h = ap Acknowledged h
says_acted_lem suppressing a a' h = ap Suppressed h

pub twin_lasts : Lasting twin
unfolding updated_by new_alarm cleared_by acted_on expired_by lifted_by
twin_lasts = record {
  keys = λ h. ap (λ (a : Alarm). a.key) h.1;
  ids = λ h. ap (λ (a : Alarm). a.id) h.1;
  due = λ t h. ap (is_due t) h.1;
  over = λ t h. ap (is_over t) h.1;
  updates = λ {c = c} r (i, h). (i, ap (λ (a : Alarm). blank (updated_by c a)) h);
  acts = λ d t (i, h). (i, ap (λ (a : Alarm). blank (acted_on d t a)) h);
  lifts = λ t (i, h). (i, ap (λ (a : Alarm). blank (lifted_by t a)) h);
  news = λ i k r. refl;
  clears = λ t (i, h). ap (λ (a : Alarm). blank (cleared_by t a)) h;
  expires = λ t (i, h). ap (λ (a : Alarm). blank (expired_by t a)) h;
  pair_past = λ (i, h). h;
  new_past = λ h. h;
  changed = λ p. p;
  freed = λ h p. record { limits = p.limits; history = p.history; audit = p.audit; free = ap₂ ◌∷◌ h.0 p.free; counters = p.counters };
  stored = λ h p. (ap (λ f. get_or f 0 0) p.free, h);
  taken = λ p. record { limits = p.limits; history = p.history; audit = p.audit; free = ap (drop 1) p.free; counters = p.counters };
  files = λ {n = n} {d} {d'} h g. into_history_lem n d d' h g;
  says_same = λ x. refl;
  says_raised = λ h. ap Raised h;
  says_updated = λ h. ap Updated h.1;
  says_acted = λ {e} {e'} x h. says_acted_lem x e.content e'.content h.1;
}
