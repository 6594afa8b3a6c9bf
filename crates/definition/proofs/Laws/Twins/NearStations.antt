-- M-113: stations that are near hold the same active alarms in the same order, but for the severity of one at most. Of histories nothing is said,
-- for their sameness looks at severities; nor of the free chains, nor of where records lie. For NearSteps and ReachHolds.
use Rattle.std.specs.Prelude.{ℕ, ◌+◌, ◌≤◌, ◌≡◌, refl, List, [], ◌∷◌, Bool, true, false, cond, ◌||◌, ◌⊎◌, eqb, length}
use Rattle.std.proofs.Common.{sym, inr, arith, ne_eqb}
use Rattle.std.proofs.Math.Path.{ap, ap₂}
use Rattle.std.proofs.Math.Logic.{inl}
use Rattle.std.proofs.Math.Decide.{ℕ_discrete}
use Rattle.definition.specs.Value.{RaiseValue, Action, acknowledging, suppressing}
use Rattle.definition.specs.Chain.{Entry, entry, contents, those, times}
use Rattle.definition.specs.Alarm.{Alarm, with_severity, has_severity, is_due, is_over}
use Rattle.definition.specs.Station.{Station}
use Rattle.definition.specs.Answer.{head_of}
use Rattle.definition.specs.Steps.{updated_by, new_alarm, action_answer, acted_on, lifted_by}
use Rattle.definition.specs.Twins.{AtEach}
use Rattle.definition.specs.Reach.{WithinOne}
use Rattle.definition.specs.Clauses.LegalStation.{LegalStation}
use Rattle.definition.proofs.Laws.Book.Occurrences.{times_hit, times_cons}
use Rattle.definition.proofs.Laws.Steps.LegalSteps.{into_history_legal}
use Rattle.definition.proofs.Laws.Steps.PairedChains.{Distinct, nothing}
use Rattle.definition.proofs.Laws.Steps.SideBySide.{both_ends}
use Rattle.definition.proofs.Laws.Steps.Alike.{Likeness, On, Lasting, go_on}

-- ---- near

-- the one alarm: the index of its record on the first station, its severity there, and on the second station
pub record Wrong : Type 0 where
  pub index : ℕ
  pub severity : ℕ
  pub severity' : ℕ

abbrev pub wrong : ℕ → ℕ → ℕ → Wrong
wrong v v' j = record { index = j; severity = v; severity' = v' }

-- without its severity
abbrev pub without_severity : Alarm → Alarm
without_severity a = with_severity 0 a

-- two alarms at the same place of the active chains
pub record NearAt (w : Wrong) (e e' : Entry Alarm) : Type 0 where
  pub alike : without_severity e.content ≡ without_severity e'.content
  pub same : (e.index ≡ w.index → ⊥) → e.content ≡ e'.content
  pub severities : (e.content.severity ≡ e'.content.severity) ⊎ ((e.content.severity ≡ w.severity) × (e'.content.severity ≡ w.severity'))

abbrev pub near : Wrong → Likeness
near w =
    record {
      Pair = NearAt w;
      New = λ a a'. a ≡ a';
      Past = λ a a'. Unit {0};
      Rest = λ s t. Unit {0};
      Says = λ x y. head_of x ≡ head_of y;
      Raise = λ c c'. c ≡ c';
    }

acted_head : (x : Action) (a a' : Alarm) → head_of (action_answer x a) ≡ head_of (action_answer x a')
acted_head acknowledging a a' = refl
acted_head suppressing a a' = refl

module _ (w : Wrong) where
  same_near : (i i' : ℕ) {a a' : Alarm} → a ≡ a' → NearAt w (entry i a) (entry i' a')
  same_near i i' p = record { alike = ap without_severity p; same = λ n. p; severities = inl (ap (λ (a : Alarm). a.severity) p) }

  pub near_lasts : Lasting (near w)
  unfolding updated_by acted_on lifted_by
  near_lasts = record {
    keys = λ h. ap (λ (a : Alarm). a.key) h.alike;
    ids = λ h. ap (λ (a : Alarm). a.id) h.alike;
    due = λ t h. ap (is_due t) h.alike;
    over = λ t h. ap (is_over t) h.alike;
    updates = λ r h. record {
      alike = ap₂ (λ (x : RaiseValue) (a : Alarm). without_severity (updated_by x a)) r h.alike;
      same = λ n. ap₂ updated_by r (h.same n);
      severities = inl (ap (λ (x : RaiseValue). x.head.severity) r);
    };
    acts = λ d t h. record { alike = ap (λ (a : Alarm). without_severity (acted_on d t a)) h.alike; same = λ n. ap (acted_on d t) (h.same n); severities = h.severities };
    lifts = λ t h. record { alike = ap (λ (a : Alarm). without_severity (lifted_by t a)) h.alike; same = λ n. ap (lifted_by t) (h.same n); severities = h.severities };
    news = λ i h r. ap (λ (c : RaiseValue). new_alarm c i) r;
    clears = λ t h. tt;
    expires = λ t h. tt;
    pair_past = λ h. tt;
    new_past = λ h. tt;
    changed = λ h. tt;
    freed = λ p h. tt;
    stored = λ {s} {t} h p. same_near _ _ h;
    taken = λ h. tt;
    files = λ {a} {a'} u g. record {
      from = λ s t p. both_ends (into_history_legal s p.legal a g.0) (into_history_legal t p.legal' a' g.1) (λ x y s' t' q r. go_on p q r tt);
    };
    says_same = λ x. refl;
    says_raised = λ h. refl;
    says_updated = λ h. refl;
    says_acted = λ x h. acted_head x _ _;
  }

  -- a station is near itself
  pub near_self : (c : List (Entry Alarm)) → AtEach (NearAt w) c c
  near_self [] = tt
  near_self (e ∷ c) = (same_near _ _ refl, near_self c)

  pub alone : (s : Station) → LegalStation s → On (near w) (length s.active) [] [] s s
  alone s l = record { legal = l; legal' = l; size = refl; limit = refl; pairs = near_self s.active; picked = nothing; rest = tt }

-- ---- how many active alarms have a severity

abbrev pub severity_count : ℕ → List (Entry Alarm) → ℕ
severity_count u c = length (those (has_severity u) (contents c))

-- one more, or not
abbrev hit : ℕ → Alarm → ℕ
hit u a = cond (has_severity u a) 1 0

hit_most : (u : ℕ) (a : Alarm) → hit u a ≤ 1
hit_most u a = go (has_severity u a)
  where
    go : (b : Bool) → cond b 1 0 ≤ 1
    go true = omega arith
    go false = omega arith

count_cons : (u : ℕ) (e : Entry Alarm) (c : List (Entry Alarm)) → severity_count u (e ∷ c) ≡ hit u e.content + severity_count u c
unfolding those
count_cons u e c = go (has_severity u e.content)
  where
    go : (b : Bool) → length (cond b (e.content ∷ those (has_severity u) (contents c)) (those (has_severity u) (contents c))) ≡ cond b 1 0 + severity_count u c
    go true = omega arith
    go false = omega arith

module _ (w : Wrong) where
  -- where the one alarm is not on the chain, no count differs
  without_apart : (u : ℕ) (c c' : List (Entry Alarm)) → AtEach (NearAt w) c c' → times w.index c ≡ 0 → severity_count u c ≡ severity_count u c'
  without_apart u [] [] h z = refl
  without_apart u [] (e ∷ c) h z = absurd h
  without_apart u (e ∷ c) [] h z = absurd h
  without_apart u (e ∷ c) (e' ∷ c') h z =
      let p = ap (hit u) (h.0.same (λ p. omega (arith, times_hit e c w.index p))) in
      let q = without_apart u c c' h.1 (omega (arith, times_cons e c w.index)) in
      omega (arith, p, q, count_cons u e c, count_cons u e' c')

  pub near_counts : (u : ℕ) (c c' : List (Entry Alarm)) → Distinct c → AtEach (NearAt w) c c' → WithinOne (severity_count u c) (severity_count u c')
  near_counts u [] [] d h = record { above = omega arith; below = omega arith }
  near_counts u [] (e ∷ c) d h = absurd h
  near_counts u (e ∷ c) [] d h = absurd h
  near_counts u (e ∷ c) (e' ∷ c') d h = elim (ℕ_discrete e.index w.index) [
    | yes p ↦ (let q = without_apart u c c' h.1 (omega (arith, d w.index, times_hit e c w.index p)) in
        let x = hit_most u e.content in
        let y = hit_most u e'.content in
        record { above = omega (arith, q, x, y, count_cons u e c, count_cons u e' c'); below = omega (arith, q, x, y, count_cons u e c, count_cons u e' c') })
    | no n ↦ (let r = near_counts u c c' (λ i. omega (arith, d i, times_cons e c i)) h.1 in
        let q = ap (hit u) (h.0.same n) in
        record { above = omega (arith, q, r.above, count_cons u e c, count_cons u e' c'); below = omega (arith, q, r.below, count_cons u e c, count_cons u e' c') })
  ]

-- ---- which of the two has the more

-- an alarm has at most the hits of another that has its severity, or if its own is not asked for
hit_fewer : (u v : ℕ) (a a' : Alarm) → (u ≡ v → ⊥) → (a.severity ≡ a'.severity) ⊎ (a.severity ≡ v) → hit u a ≤ hit u a'
hit_fewer u v a a' n (inl p) = omega (arith, ap {B = ℕ} (λ (x : ℕ). cond (eqb u 255 || eqb u x) 1 0) p)
hit_fewer u v a a' n (inr p) = rw (p, ne_eqb u v n) (go (eqb u 255) (eqb u a'.severity))
  where
    go : (x y : Bool) → cond (x || false) 1 0 ≤ cond (x || y) 1 0
    go true y = omega arith
    go false true = omega arith
    go false false = omega arith

count_each : (u : ℕ) (P : Entry Alarm → Entry Alarm → Type 0) → ((e e' : Entry Alarm) → P e e' → hit u e.content ≤ hit u e'.content) → (c c' : List (Entry Alarm)) → AtEach P c c' →
    severity_count u c ≤ severity_count u c'
count_each u P f [] [] h = omega arith
count_each u P f [] (e ∷ c) h = absurd h
count_each u P f (e ∷ c) [] h = absurd h
count_each u P f (e ∷ c) (e' ∷ c') h = omega (arith, f e e' h.0, count_each u P f c c' h.1, count_cons u e c, count_cons u e' c')

flipped : (P : Entry Alarm → Entry Alarm → Type 0) (c c' : List (Entry Alarm)) → AtEach P c c' → AtEach (λ e' e. P e e') c' c
flipped P [] [] h = tt
flipped P [] (e ∷ c) h = absurd h
flipped P (e ∷ c) [] h = absurd h
flipped P (e ∷ c) (e' ∷ c') h = (h.0, flipped P c c' h.1)

one_side : {x x' v v' : ℕ} → (x ≡ x') ⊎ ((x ≡ v) × (x' ≡ v')) → (x ≡ x') ⊎ (x ≡ v)
one_side (inl p) = inl p
one_side (inr p) = inr p.0

other_side : {x x' v v' : ℕ} → (x ≡ x') ⊎ ((x ≡ v) × (x' ≡ v')) → (x' ≡ x) ⊎ (x' ≡ v')
other_side (inl p) = inl (sym p)
other_side (inr p) = inr p.1

module _ (w : Wrong) (u : ℕ) (c c' : List (Entry Alarm)) (h : AtEach (NearAt w) c c') where
  pub near_first : (u ≡ w.severity → ⊥) → severity_count u c ≤ severity_count u c'
  near_first n = count_each u (NearAt w) (λ e e' q. hit_fewer u w.severity e.content e'.content n (one_side q.severities)) c c' h

  pub near_second : (u ≡ w.severity' → ⊥) → severity_count u c' ≤ severity_count u c
  near_second n = count_each u _ (λ e' e q. hit_fewer u w.severity' e'.content e.content n (other_side q.severities)) c' c (flipped (NearAt w) c c' h)
