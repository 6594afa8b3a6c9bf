-- Fields that are changed one after the other come to the step's change.
use Rattle.std.specs.Prelude.{ℕ, ◌≡◌}
use Rattle.std.proofs.Math.Path.{sym}
use Rattle.std.proofs.Math.Option.{none}
use Rattle.octets.specs.Bytes.{Bytes}
use Rattle.definition.specs.Alarm.{late, with_severity, with_state, with_updated, with_cleared, with_text, with_details, with_raises, with_end}
use Rattle.definition.specs.Record.{last_active, alarm_bytes, read_alarm}
use Rattle.definition.specs.Value.{Deed, deed_action, deed_end}
use Rattle.definition.specs.Steps.{action_state, updated_state, one_more_raise, acted_on, cleared_by, expired_by, lifted_by}
use Rattle.history.specs.Meaning.{IsAlarm}
use Rattle.history.specs.AlarmRecordLaws.{payload_bytes}
use Rattle.changes.specs.Meaning.{Turns, NewsValue, updated_with}

module _ (p : Bytes) (i : IsAlarm last_active p) where
  holds : p ≡ alarm_bytes (read_alarm p)
  holds = sym (payload_bytes last_active p i.legal)

  pub acted : (d : Deed) (time s t : ℕ) (q r u : Bytes) → s ≡ action_state (deed_action d) → t ≡ late time (read_alarm p).raised_at →
      Turns (with_state s) p q → Turns (with_updated t) q r → Turns (with_end (deed_end d)) r u → u ≡ alarm_bytes (acted_on d time (read_alarm p))
  unfolding acted_on
  acted d time s t q r u hs ht f g h = rw (sym hs, sym ht) (h _ (g _ (f _ holds)))

  pub cleared : (time t : ℕ) (q r s u v : Bytes) → t ≡ late time (read_alarm p).raised_at →
      Turns (with_severity 0) p q → Turns (with_state 4) q r → Turns (with_updated t) r s → Turns (with_cleared t) s u → Turns (with_end none) u v → v ≡ alarm_bytes (cleared_by time (read_alarm p))
  unfolding cleared_by
  cleared time t q r s u v ht f g h k l = rw (sym ht) (l _ (k _ (h _ (g _ (f _ holds)))))

  pub expired : (cutoff : ℕ) (q r s u : Bytes) → Turns (with_state 5) p q → Turns (with_updated cutoff) q r → Turns (with_cleared cutoff) r s → Turns (with_end none) s u →
      u ≡ alarm_bytes (expired_by cutoff (read_alarm p))
  unfolding expired_by
  expired cutoff q r s u f g h k = k _ (h _ (g _ (f _ holds)))

  pub lifted : (cutoff t : ℕ) (q r s : Bytes) → t ≡ late cutoff (read_alarm p).raised_at → Turns (with_state 1) p q → Turns (with_updated t) q r → Turns (with_end none) r s →
      s ≡ alarm_bytes (lifted_by cutoff (read_alarm p))
  unfolding lifted_by
  lifted cutoff t q r s ht f g h = rw (sym ht) (h _ (g _ (f _ holds)))

  pub updated :
      (n : NewsValue) (x t m : ℕ) (q r s u v w : Bytes) →
      x ≡ updated_state (read_alarm p).state → t ≡ late n.time (read_alarm p).raised_at → m ≡ one_more_raise (read_alarm p).raises →
      Turns (with_severity n.severity) p q → Turns (with_text n.text) q r → Turns (with_details n.details) r s → Turns (with_state x) s u →
      Turns (with_updated t) u v → Turns (with_raises m) v w →
      w ≡ alarm_bytes (updated_with n (read_alarm p))
  updated n x t m q r s u v w hx ht hm f g h k l o = rw (sym hx, sym ht, sym hm) (o _ (l _ (k _ (h _ (g _ (f _ holds))))))
