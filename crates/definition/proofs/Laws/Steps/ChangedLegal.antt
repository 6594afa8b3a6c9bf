-- Each change of an alarm keeps its fields legal, and the events that steps make have legal fields. For the laws of steps, and for the code of
-- these changes (`raising`, `state`, `expiry`, `history`, `build`).
use Rattle.std.specs.Prelude.{ℕ, ◌≤◌, ◌≡◌, refl, Bool, true, false, cond, leb, ltb}
use Rattle.std.proofs.Math.Option.{Option, none, some}
use Rattle.std.proofs.Common.{arith, ltb-true}
use Rattle.octets.specs.Bytes.{Bytes}
use Rattle.definition.specs.Limits.{text_limit, details_limit}
use Rattle.definition.specs.Value.{RaiseValue, PolicyValue, Action, acknowledging, suppressing, Deed, untimed, until, deed_action, deed_end}
use Rattle.definition.specs.Alarm.{Alarm, changed, before, late}
use Rattle.definition.specs.Steps.{updated_state, one_more_raise, updated_by, new_alarm, cleared_by, action_state, action_byte, acted_on, event_of, expired_by, lifted_by}
use Rattle.definition.specs.Clauses.LegalFields.{Time, Raises, Maybe, BlobOf, TextOf, KeyOf, EndOf, LegalAlarm, LegalEvent, LegalRaise, LegalPolicy}

late_time : (t u : ℕ) → Time t → Time u → Time (late t u)
unfolding late
late_time t u p q = go (before t u)
  where
    go : (b : Bool) → Time (cond b u t)
    go true = q
    go false = p

-- ---- the changes of an alarm

-- legal values of the fields that steps change keep an alarm legal; the state may be of another chain
pub changed_legal :
    {top last v x u n : ℕ} {s : Bytes} {d : Option Bytes} {c z : Option ℕ} (a : Alarm) → LegalAlarm top a →
    v ≤ 5 → TextOf text_limit s → Maybe (BlobOf details_limit) d → x ≤ last → Time u → Maybe Time c → Raises n → EndOf x z →
    LegalAlarm last (changed a v s d x u c n z)
changed_legal a p severity text details state updated cleared raises end = record {
  id = p.id;
  type = p.type;
  severity = severity;
  about = p.about;
  text = text;
  details = details;
  state = state;
  raised_at = p.raised_at;
  updated_at = updated;
  cleared_at = cleared;
  key = p.key;
  raises = raises;
  end = end;
}

pub past : (a : Alarm) → LegalAlarm 3 a → LegalAlarm 5 a
past a p = changed_legal a p p.severity p.text p.details (omega (arith, p.state)) p.updated_at p.cleared_at p.raises p.end

updated_state_active : (n : ℕ) → n ≤ 3 → updated_state n ≤ 3
updated_state_active n h = go (leb n 1)
  where
    go : (b : Bool) → cond b 1 n ≤ 3
    go true = omega arith
    go false = h

-- M-105: a suppressed alarm stays so, and keeps its end
updated_state_end : (n : ℕ) (o : Option ℕ) → EndOf n o → EndOf (updated_state n) o
updated_state_end n none p = tt
updated_state_end n (some t) p = (p.0, rw p.1 refl)

-- held: they stay legal, whatever was counted before
one_more_raise_legal : (n : ℕ) → Raises (one_more_raise n)
unfolding one_more_raise
one_more_raise_legal n = go (ltb n 4294967295) _ _ (λ e. omega (arith, ltb-true n 4294967295 e)) (omega arith)
  where
    go : (b : Bool) (x y : ℕ) → (b ≡ true → Raises x) → Raises y → Raises (cond b x y)
    go true x y p q = p refl
    go false x y p q = q

pub updated_legal : (c : RaiseValue) (a : Alarm) → LegalRaise c → LegalAlarm 3 a → LegalAlarm 3 (updated_by c a)
unfolding updated_by
updated_legal c a r p = changed_legal a p r.severity r.text r.details (updated_state_active a.state p.state) (late_time c.head.time a.raised_at r.time p.raised_at) p.cleared_at (one_more_raise_legal a.raises) (updated_state_end a.state a.end p.end)

pub new_legal : (c : RaiseValue) (k : Bytes) → LegalRaise c → KeyOf k → LegalAlarm 3 (new_alarm c k)
unfolding new_alarm
new_legal c k r h = record {
  id = r.id;
  type = r.type;
  severity = r.severity;
  about = r.key;
  text = r.text;
  details = r.details;
  state = omega arith;
  raised_at = r.time;
  updated_at = r.time;
  cleared_at = tt;
  key = h;
  raises = omega arith;
  end = tt;
}

pub cleared_legal : (t : ℕ) (a : Alarm) → Time t → LegalAlarm 3 a → LegalAlarm 5 (cleared_by t a)
unfolding cleared_by
cleared_legal t a h p =
    let l = late_time t a.raised_at h p.raised_at in
    changed_legal a p (omega arith) p.text p.details (omega arith) l l p.raises tt

action_state_active : (x : Action) → action_state x ≤ 3
action_state_active acknowledging = omega arith
action_state_active suppressing = omega arith

-- M-105: the end of a timed suppression alone
deed_end_lem : (d : Deed) → Maybe Time (deed_end d) → EndOf (action_state (deed_action d)) (deed_end d)
deed_end_lem (untimed x) h = tt
deed_end_lem (until end) h = (h, refl)

pub acted_legal : (d : Deed) (t : ℕ) (a : Alarm) → Maybe Time (deed_end d) → Time t → LegalAlarm 3 a → LegalAlarm 3 (acted_on d t a)
unfolding acted_on
acted_legal d t a e h p = changed_legal a p p.severity p.text p.details (action_state_active (deed_action d)) (late_time t a.raised_at h p.raised_at) p.cleared_at p.raises (deed_end_lem d e)

pub expired_legal : (t : ℕ) (a : Alarm) → Time t → LegalAlarm 3 a → LegalAlarm 5 (expired_by t a)
unfolding expired_by
expired_legal t a h p = changed_legal a p p.severity p.text p.details (omega arith) h h p.raises tt

pub lifted_legal : (t : ℕ) (a : Alarm) → Time t → LegalAlarm 3 a → LegalAlarm 3 (lifted_by t a)
unfolding lifted_by
lifted_legal t a h p = changed_legal a p p.severity p.text p.details (omega arith) (late_time t a.raised_at h p.raised_at) p.cleared_at p.raises tt

action_byte_small : (x : Action) → action_byte x ≤ 1
action_byte_small acknowledging = omega arith
action_byte_small suppressing = omega arith

pub event_legal : (x : Action) (outcome : ℕ) (p : PolicyValue) (a : Alarm) → outcome ≤ 1 → LegalPolicy p → LegalAlarm 3 a → LegalEvent (event_of x outcome p a)
unfolding event_of
event_legal x n p a h q l = record {
  action = action_byte_small x;
  outcome = h;
  id = l.id;
  type = l.type;
  cause = l.about.cause;
  principal = q.principal;
  tenant = q.tenant;
  reason = q.reason;
  scope = q.scope;
  correlation = q.correlation;
  occurred_at = late_time p.actor.time a.raised_at q.time l.raised_at;
}
