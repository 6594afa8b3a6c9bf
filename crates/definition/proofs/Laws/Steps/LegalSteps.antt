-- What goes into history keeps a station legal, and the active chain as it was; and wherever a step takes a record, one is free. For the sweep
-- of `expiry`, which retires and revises alarms, for M-107, and for the reach.
use Rattle.std.specs.Prelude.{ℕ, ◌≤◌, ◌<◌, ◌≡◌, List, [], ◌∷◌, Bool, cond, length}
use Rattle.std.proofs.Math.Path.{refl}
use Rattle.std.proofs.Common.{◌∙◌}
use Rattle.std.proofs.Math.Bool.{true, false}
use Rattle.std.proofs.Math.Option.{Option, none, some}
use Rattle.std.proofs.Math.Dec.{leb}
use borrow.Author.Tests.{leb-true, leb-false}
use Rattle.definition.specs.Chain.{Entry, newest, without, replaced, times}
use Rattle.definition.specs.Alarm.{Alarm, Event, same_identity}
use Rattle.definition.specs.Station.{Station, Outcome, done, Step, ◌>>=◌, give, for_each, active_full, audit_full, with_active, change_active, free_oldest_history}
use Rattle.definition.specs.Steps.{make_room, extend_history, history_after, into_history, revise, retire}
use Rattle.definition.specs.Reports.{free_one}
use Rattle.definition.specs.Clauses.LegalFields.{LegalAlarm}
use Rattle.definition.specs.Clauses.LegalStation.{LegalStation}
use Rattle.definition.proofs.Laws.Steps.LegalMoves.{Ends, ok, ended, ends_after, ends_weaken, Aside, Free, active_free, history_free, audit_free, add_history_legal, free_active_legal, free_oldest_history_legal, free_oldest_audit_legal, change_active_legal, change_history_legal}
use Rattle.definition.proofs.Laws.Steps.ChangedLegal.{past}

cond_ends : {A : Type 0} {Q : A → Station → Type 0} {s : Station} (b : Bool) (m n : Step A) → Ends Q (m s) → Ends Q (n s) → Ends Q (cond b m n s)
cond_ends true m n p q = p
cond_ends false m n p q = q

aside_trans : {s t u : Station} → Aside s t → Aside t u → Aside s u
aside_trans p q = record { legal = q.legal; same = q.same ∙ p.same; limit = q.limit ∙ p.limit }

-- a step and then one that leaves the active chain alone
then_aside : {A : Type 0} {s t : Station} {o : Outcome A} → Aside s t → Ends (λ u v. Aside t v) o → Ends (λ u v. Aside s v) o
then_aside p e = ends_weaken e (λ u v q. aside_trans p q)

module _ (s : Station) (l : LegalStation s) where
  make_room_legal : Ends (λ u t. Aside s t × (length t.history < t.limit_h)) (make_room s)
  unfolding make_room ◌>>=◌
  make_room_legal = go (leb s.limit_h (length s.history)) refl
    where
      go : (b : Bool) → leb s.limit_h (length s.history) ≡ b → Ends (λ u t. Aside s t × (length t.history < t.limit_h)) (cond b free_oldest_history (give tt) s)
      go true p = free_oldest_history_legal s l (leb-true _ _ p)
      go false p = ok (record { legal = l; same = refl; limit = refl }, leb-false _ _ p)

  extend_history_legal : (a : Alarm) → LegalAlarm 5 a → Ends (λ u t. Aside s t) (extend_history a s)
  unfolding extend_history ◌>>=◌
  extend_history_legal a p = ends_after _ make_room_legal (λ u t r. then_aside r.0 (add_history_legal t r.0.legal a p r.1))

  history_after_legal : (a : Alarm) → LegalAlarm 5 a → (o : Option (Entry Alarm)) → Ends (λ u t. Aside s t) (history_after a o s)
  unfolding history_after
  history_after_legal a p none = extend_history_legal a p
  history_after_legal a p (some e) = cond_ends (same_identity e.content a) _ _ (change_history_legal s l e.index a p) (extend_history_legal a p)

  pub into_history_legal : (a : Alarm) → LegalAlarm 5 a → Ends (λ u t. Aside s t) (into_history a s)
  unfolding into_history ◌>>=◌
  into_history_legal a p = history_after_legal a p (newest s.history)

-- operation 12 frees audit records one by one
pub frees_legal : (d : List (Entry Event)) (s : Station) → LegalStation s → Ends (λ u t. Aside s t) (for_each d free_one s)
unfolding for_each ◌>>=◌
frees_legal [] s l = ok (record { legal = l; same = refl; limit = refl })
frees_legal (e ∷ d) s l = ends_after _ (free_oldest_audit_legal s l) (λ u t p. then_aside p (frees_legal d t p.legal))

-- ---- a step on the active chain

module _ (s : Station) (l : LegalStation s) where
  pub revise_legal : (i : ℕ) (a : Alarm) → LegalAlarm 3 a → Ends (λ u t. t.active ≡ replaced i a s.active) (revise i a s)
  unfolding revise change_active ◌>>=◌
  revise_legal i a f =
      let t = with_active (replaced i a s.active) s.free s in
      ends_weaken (into_history_legal t (ended (change_active_legal s l i a f)) a (past a f)) (λ v r q. q.same)

  pub retire_legal : (i : ℕ) (a : Alarm) → LegalAlarm 5 a → 1 ≤ times i s.active → Ends (λ u t. LegalStation t × (t.active ≡ without i s.active) × (t.limit_a ≡ s.limit_a)) (retire i a s)
  unfolding retire ◌>>=◌
  retire_legal i a f h =
      ends_after _ (free_active_legal s l i h) (λ u t p.
      ends_weaken (into_history_legal t p.0 a f) (λ v r q. (q.legal, q.same ∙ p.1, q.limit ∙ p.2)))

-- ---- M-107: wherever a step takes a record, the free chain of a legal station has one: behind each of the three tests before a take

module _ (s : Station) (l : LegalStation s) where
  -- a raise stores a new alarm where the active chain is not full
  pub raise_takes : active_full s ≡ done false s → Free s
  raise_takes e = active_free s l (leb-false s.limit_a (length s.active) cc)

  -- history is extended behind `make_room`
  pub history_takes : Ends (λ u t. Free t) (make_room s)
  history_takes = ends_weaken (make_room_legal s l) (λ u t p. history_free t p.0.legal p.1)

  -- an event is stored where the audit chain is not full
  pub audit_takes : audit_full s ≡ done false s → Free s
  audit_takes e = audit_free s l (leb-false s.limit_e (length s.audit) cc)
