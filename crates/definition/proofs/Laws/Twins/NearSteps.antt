-- M-113: one call on each of two stations that are near leaves them near, if it is no policy call or changes nothing; and a raise with another
-- severity leaves a station near itself. For ReachHolds.
use Rattle.std.specs.Prelude.{ℕ, ◌<◌, ◌≡◌, [], Bool, true, false, cond, T, leb, ltb, length, take}
use Rattle.std.proofs.Math.Path.{refl, ap}
use Rattle.std.proofs.Common.{inr, arith, leb-false}
use Rattle.std.proofs.Math.Option.{Option, none, some}
use Rattle.octets.specs.Bytes.{Bytes}
use Rattle.definition.specs.Value.{RaiseValue, CallValue, op_of, acknowledging, suppressing, untimed, until}
use Rattle.definition.specs.Key.{key_of}
use Rattle.definition.proofs.Laws.Text.Key.{length_key}
use Rattle.definition.specs.Chain.{Entry, entry, contents, present, first}
use Rattle.definition.specs.Alarm.{Alarm, has_key, has_id}
use Rattle.definition.specs.Station.{Station, Outcome, done, stopped, Step, after, ◌>>=◌, give, refuse, look, next_free}
use Rattle.definition.specs.Answer.{Answer, Updated, Events, head, head_of, answer_bytes}
use Rattle.definition.specs.Steps.{updated_by, new_alarm, store, store_new, limit_exceeded, raise_at, raise}
use Rattle.definition.specs.Reports.{active_list, history_list, counts, summary, take_audit}
use Rattle.definition.specs.Perform.{in_record, in_length, perform}
use Rattle.definition.specs.Reach.{is_policy, keeps_head}
use Rattle.definition.specs.Clauses.LegalFields.{LegalRaise, LegalCall}
use Rattle.definition.specs.Clauses.LegalStation.{LegalStation}
use Rattle.definition.proofs.Laws.Steps.ChangedLegal.{past, updated_legal, new_legal}
use Rattle.definition.proofs.Laws.Steps.LegalMoves.{Ends, ok, Aside}
use Rattle.definition.proofs.Laws.Steps.LegalSteps.{frees_legal}
use Rattle.definition.proofs.Laws.Steps.PairedChains.{Search, found, first_each, picked_holds, length_each}
use Rattle.definition.proofs.Laws.Steps.SideBySide.{Both, both, neither, Related, post_related, after_both, then_related, give_related, look_related}
use Rattle.definition.proofs.Laws.Steps.Alike.{On, Told, go_on, pick, add_active_at}
use Rattle.definition.proofs.Laws.Steps.AlikeSteps.{settled, told, change_like, raise_like, clear_like, plain_like, expire_like, lift_like, in_record_like}
use Rattle.definition.proofs.Laws.Twins.KeptLegal.{station_after}
use Rattle.definition.proofs.Laws.Twins.NearStations.{Wrong, wrong, without_severity, NearAt, near, near_lasts, near_self, alone}

-- ---- the raise whose severity is another

-- the raise with another severity
abbrev pub raise_with : ℕ → RaiseValue → RaiseValue
raise_with v c =
    record { head = record { time = c.head.time; id = c.head.id; type = c.head.type; severity = v }; key = c.key; text = c.text; details = c.details }

-- near, but for some alarm whose severities are v and v'
abbrev pub NearBut : ℕ → ℕ → Station → Station → Type 0
NearBut v v' s t = (j : ℕ) × On (near (wrong v v' j)) (length s.active) [] [] s t

-- and answers with the same head
abbrev AnsweredApart : ℕ → ℕ → Answer → Answer → Station → Station → Type 0
AnsweredApart v v' x y s t = (head_of x ≡ head_of y) × NearBut v v' s t

module _ (s : Station) (l : LegalStation s) (c : RaiseValue) (v' : ℕ) (f : LegalRaise c) (f' : LegalRaise (raise_with v' c)) where
  -- record j has the alarm that is raised
  abbrev wrong_at : ℕ → Wrong
  wrong_at j = wrong c.head.severity v' j

  abbrev Apart : Answer → Answer → Station → Station → Type 0
  Apart = AnsweredApart c.head.severity v'

  apart_at : (j : ℕ) (a a' : Alarm) → a.severity ≡ c.head.severity → a'.severity ≡ v' → without_severity a ≡ without_severity a' → NearAt (wrong_at j) (entry j a) (entry j a')
  apart_at j a a' p p' h = record { alike = h; same = λ n. absurd (n refl); severities = inr (p, p') }

  store_apart : (k : Bytes) → length k ≡ 16 → length s.active < s.limit_a → Both Apart (store (new_alarm c k) s) (store (new_alarm (raise_with v' c) k) s)
  unfolding store new_alarm ◌>>=◌
  store_apart k h fits =
      let w = wrong_at (next_free s) in
      let g = new_legal c k f h in
      let g' = new_legal (raise_with v' c) k f' h in
      after_both _ _ (λ x y. then_related ((near_lasts w).files tt (past _ g, past _ g')) (give_related (λ t u p. (refl, (next_free s, settled (near_lasts w) p)))))
      (add_active_at (near_lasts w) s s (alone w s l, fits) (g, g') (apart_at (next_free s) _ _ refl refl refl))

  raise_apart : Both Apart (raise c s) (raise (raise_with v' c) s)
  unfolding raise raise_at store_new new_alarm updated_by ◌>>=◌
  raise_apart = go (first (has_key k) s.active) (first_each (NearAt (wrong_at 0)) (has_key k) (λ e e' h. ap (λ (a : Alarm). has_key k a) h.alike) s.active s.active (near_self (wrong_at 0) s.active))
    where
      k : Bytes
      k = key_of c.head.type c.key

      stored : (b : Bool) → length s.active < s.limit_a → Both Apart (cond b (refuse 31) (store (new_alarm c k)) s) (cond b (refuse 31) (store (new_alarm (raise_with v' c) k)) s)
      stored true fits = neither {n = 31} tt
      stored false fits = store_apart k (length_key _ _) fits

      full : (b : Bool) → leb s.limit_a (length s.active) ≡ b →
          Both Apart (cond b (limit_exceeded k) (store_new (new_alarm c k)) s) (cond b (limit_exceeded k) (store_new (new_alarm (raise_with v' c) k)) s)
      full true h = both (refl, (0, alone (wrong_at 0) s l))
      full false h = stored (present (first (has_id c.head.id) s.active)) (leb-false s.limit_a (length s.active) h)

      go : (o : Option (Entry Alarm)) → Search (NearAt (wrong_at 0)) s.active s.active o o → Both Apart (raise_at c k o s) (raise_at (raise_with v' c) k o s)
      go none p = full (leb s.limit_a (length s.active)) refl
      go (some e) (found h q) =
          let j = e.index in
          let w = wrong_at j in
          let g = picked_holds _ q l.fields.active l.fields.active in
          (post_related {Q' = Apart} (λ x y t u p. (p.says, (j, p.on)))
          (change_like (near_lasts w) Updated (apart_at j _ _ refl refl refl) (updated_legal c e.content f g.0, updated_legal (raise_with v' c) e.content f' g.1) refl refl)
          ).from s s (pick (near_lasts w) (alone w s l) q)

-- ---- one call on each

-- both are refused with the same number, or answered with the same head
abbrev pub SameHeads : Outcome Answer → Outcome Answer → Type 0
SameHeads (done x s) (done y t) = head_of x ≡ head_of y
SameHeads (done x s) (stopped n) = ⊥
SameHeads (stopped n) (done x s) = ⊥
SameHeads (stopped n) (stopped m) = n ≡ m

-- what the outcomes of a call of operation op leave, and what they tell
pub record NearAfter (w : Wrong) (s t : Station) (op : ℕ) (o o' : Outcome Answer) : Type 0 where
  pub on : On (near w) (length (station_after s o).active) [] [] (station_after s o) (station_after t o')
  pub heads : T (keeps_head op) → SameHeads o o'

module _ {w : Wrong} {m : ℕ} {s t : Station} (p : On (near w) m [] [] s t) where
  -- a step that is done on both or on neither
  in_record_lem : {i : ℕ} (op n : ℕ) {step : Step Answer} → Related (On (near w) m [] []) (Told (near w) i m) step step → NearAfter w s t op (in_record n step s) (in_record n step t)
  in_record_lem {i} op n x = go ((in_record_like (near_lasts w) n x).from s t p)
    where
      go : {o o' : Outcome Answer} → Both (Told (near w) i m) o o' → NearAfter w s t op o o'
      go (both q) = record { on = q.on; heads = λ h. q.says }
      go (neither k) = record { on = settled (near_lasts w) p; heads = λ h. refl }

-- a call of another operation, of whose head nothing is said
silent : {w : Wrong} {s t : Station} {op : ℕ} {o o' : Outcome Answer} → (T (keeps_head op) → ⊥) →
    On (near w) (length (station_after s o).active) [] [] (station_after s o) (station_after t o') → NearAfter w s t op o o'
silent n p = record { on = p; heads = λ h. absurd (n h) }

-- the same of the raise whose severity is another
pub record ApartAfter (v v' : ℕ) (s : Station) (o o' : Outcome Answer) : Type 0 where
  pub on : NearBut v v' (station_after s o) (station_after s o')
  pub heads : SameHeads o o'

-- a look leaves the station, answered or not
looked : (n : ℕ) (f : Station → Answer) (s : Station) → station_after s (in_length n (look f) s) ≡ s
unfolding in_length ◌>>=◌
looked n f s = go (ltb n (length (answer_bytes (f s))))
  where
    go : (b : Bool) → station_after s (cond b (refuse 30) (give (f s)) s) ≡ s
    go true = refl
    go false = refl

-- taking audit events leaves the active chain, answered or not
audited : (n i : ℕ) (s : Station) → LegalStation s → Aside s (station_after s (in_length n (take_audit i) s))
unfolding in_length take_audit ◌>>=◌
audited n i s l = go (frees_legal (take i s.audit) s l)
  where
    x : Answer
    x = Events (contents (take i s.audit))

    fits : {t : Station} (b : Bool) → Aside s t → Aside s (station_after s (cond b (refuse 30) (give x) t))
    fits true h = record { legal = l; same = refl; limit = refl }
    fits false h = h

    go : {o : Outcome (Unit {0})} → Ends (λ u t. Aside s t) o → Aside s (station_after s (after (after o (λ u. give x)) (λ a. cond (ltb n (length (answer_bytes a))) (refuse 30) (give a))))
    go (ok h) = fits (ltb n (length (answer_bytes x))) h

summary_near : (w : Wrong) {n : ℕ} → Related (On (near w) n [] []) (Told (near w) 0 n) summary summary
unfolding summary
summary_near w = look_related (λ s t p. told (near_lasts w) (ap (head 11 0) (length_each (NearAt w) s.active t.active p.pairs)) refl (omega arith) s t p)

-- a call c with an answer slice of n bytes; a policy call changes neither station
pub near_call : (w : Wrong) {m : ℕ} (c : CallValue) (n : ℕ) (s t : Station) → LegalCall c →
    (T (is_policy (op_of c)) → (station_after s (perform c n s) ≡ s) × (station_after t (perform c n t) ≡ t)) → On (near w) m [] [] s t →
    NearAfter w s t (op_of c) (perform c n s) (perform c n t)
unfolding perform in_length ◌>>=◌ active_list history_list counts
near_call w (CallValue.raise c) n s t h q p = in_record_lem p _ n (raise_like (near_lasts w) {c = c} {w = c.text} {d = c.details} refl h h)
near_call w (CallValue.clear c) n s t h q p = in_record_lem p _ n (clear_like (near_lasts w) c h)
near_call w (CallValue.plain acknowledging v) n s t h q p = in_record_lem p _ n (plain_like (near_lasts w) acknowledging v h)
near_call w (CallValue.plain suppressing v) n s t h q p = in_record_lem p _ n (plain_like (near_lasts w) suppressing v h)
near_call w (CallValue.policy (untimed acknowledging) v) n s t h q p = silent (λ h. h) (rw ((q tt).0, (q tt).1) (settled (near_lasts w) p))
near_call w (CallValue.policy (untimed suppressing) v) n s t h q p = silent (λ h. h) (rw ((q tt).0, (q tt).1) (settled (near_lasts w) p))
near_call w (CallValue.policy (until u) v) n s t h q p = silent (λ h. h) (rw ((q tt).0, (q tt).1) (settled (near_lasts w) p))
near_call w (CallValue.expire u) n s t h q p = in_record_lem p _ n (expire_like (near_lasts w) u h)
near_call w (CallValue.active v) n s t h q p = silent (λ h. h) (rw (looked n _ s, looked n _ t) (settled (near_lasts w) p))
near_call w (CallValue.history u v) n s t h q p = silent (λ h. h) (rw (looked n _ s, looked n _ t) (settled (near_lasts w) p))
near_call w CallValue.counts n s t h q p = silent (λ h. h) (rw (looked n _ s, looked n _ t) (settled (near_lasts w) p))
near_call w CallValue.summary n s t h q p = in_record_lem p _ n (summary_near w)
near_call w (CallValue.take_audit i) n s t h q p = silent (λ h. h) (settled (near_lasts w) (go_on p (audited n i s p.legal) (audited n i t p.legal') tt))
near_call w (CallValue.lift u) n s t h q p = in_record_lem p _ n (lift_like (near_lasts w) u h)
near_call w (CallValue.refused k) n s t h q p = record { on = settled (near_lasts w) p; heads = λ h. refl }

-- the raise with the severity v, and the same with v', on one station
pub call_apart : (s : Station) → LegalStation s → (c : RaiseValue) (v' n : ℕ) → LegalRaise c → LegalRaise (raise_with v' c) →
    ApartAfter c.head.severity v' s (perform (CallValue.raise c) n s) (perform (CallValue.raise (raise_with v' c)) n s)
unfolding perform
call_apart s l c v' n f f' =
    go ((in_record_like (near_lasts (wrong c.head.severity v' 0)) n
    (record { from = λ a b (p : (a ≡ s) × (b ≡ s)). rw (p.0, p.1) (raise_apart s l c v' f f') })).from s s (refl, refl))
  where
    go : {o o' : Outcome Answer} → Both (AnsweredApart c.head.severity v') o o' → ApartAfter c.head.severity v' s o o'
    go (both q) = record { on = q.1; heads = q.0 }
    go (neither b) = record { on = (0, alone _ s l); heads = refl }
