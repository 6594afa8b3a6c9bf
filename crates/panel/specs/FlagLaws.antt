-- The flags of the active alarms, as one walk along their chain collects them.
use Rattle.std.specs.Prelude.{ℕ, zero, suc, ◌*◌, ◌%◌, ◌^◌, ◌≤◌, ◌<◌, ◌≡◌, Bool, true, false, cond, ◌&&◌, ◌||◌, eqb, T}
use Rattle.std.proofs.Math.Path.{sym, ap}
use Rattle.std.proofs.Common.{◌∙◌, arith, mod-eq_of_lt, pow_pos, ne_eqb}
use mathlib.Core.List.{List, [], ◌∷◌, map}
use Rattle.std.proofs.Math.Bool.{and-true, and-false, or-false, or_assoc}
use Rattle.std.proofs.Math.Pow.{pow-lt}
use Rattle.std.specs.Int.Bits.{bit_or, or_lt}
use Rattle.octets.specs.Bytes.{Bytes}
use Rattle.definition.specs.Chain.{any}
use Rattle.definition.specs.Alarm.{Alarm}
use Rattle.definition.specs.Record.{read_alarm}
use Rattle.definition.specs.Book.{record_of}
use Rattle.definition.specs.Panel.{is_set, by_bits, is_raised_or_updated, sets_flag, is_flagged}
use Rattle.definition.specs.Sound.{sound}
use Rattle.history.specs.Walk.{alarm_at, alarms_on, records_on, Ahead}
use Rattle.history.specs.AlarmRecordLaws.{payload_legal}
use Rattle.history.specs.LinkLaws.{records_alarms, ahead_all, ahead_alarm, ahead_next}
use Rattle.panel.specs.Meaning.{flag_of}
use Rattle.panel.specs.BitLaws.{set_or, set_zero, set_power, bits_same, bits_own}

-- ---- the flag of one alarm

-- states above 1 have none
pub flag_none : (x v : ℕ) → 1 < x → 0 ≡ flag_of x v
flag_none x v h = rw (ne_eqb x 0 (λ e. omega (arith, e)), ne_eqb x 1 (λ e. omega (arith, e)))

-- states 0 and 1 have that of the severity, as a shift gives it
pub flag_one : (x v : ℕ) → x ≤ 1 → v < 8 → (1 * 2 ^ v) % 2 ^ 8 ≡ flag_of x v
flag_one zero v h l = mod-eq_of_lt (omega (arith, pow-lt {i = v} {j = 8} l)) ∙ omega arith
flag_one (suc zero) v h l = mod-eq_of_lt (omega (arith, pow-lt {i = v} {j = 8} l)) ∙ omega arith
flag_one (suc (suc x)) v h l = absurd (omega arith)

flag_set : (a : Alarm) (s : ℕ) → is_set (flag_of a.state a.severity) s ≡ sets_flag s a
flag_set a s = go (is_raised_or_updated a)
  where
    go : (y : Bool) → is_set (cond y (2 ^ a.severity) 0) s ≡ eqb a.severity s && y
    go true = set_power a.severity s ∙ sym (and-true (eqb a.severity s))
    go false = set_zero s ∙ sym (and-false (eqb a.severity s))

flag_small : (x v : ℕ) → v < 8 → flag_of x v < 2 ^ 8
flag_small x v h = go (eqb x 0 || eqb x 1)
  where
    go : (y : Bool) → cond y (2 ^ v) 0 < 2 ^ 8
    go true = pow-lt h
    go false = pow_pos 8

-- ---- the walk

-- the records in `rest` are still to come, and `found` has the flags of the alarms in those passed
pub record Passed (b : Bytes) (rest : List ℕ) (found : ℕ) : Type 0 where
  pub ahead : Ahead b 0 rest
  pub small : found < 2 ^ 8
  pub same : (s : ℕ) → is_set found s || is_flagged (map (alarm_at b) rest) s ≡ is_flagged (alarms_on 0 b) s

pub passed_none : {b : Bytes} {l : List ℕ} → T (sound b) → l ≡ records_on 0 b → Passed b l 0
passed_none {b} {l} h e = record {
  ahead = ahead_all h (omega arith) e;
  small = pow_pos 8;
  same = λ s.
      ap (λ (y : Bool). y || is_flagged (map (alarm_at b) l) s) (set_zero s)
      ∙ ap (λ (t : List Alarm). is_flagged t s) (ap (map (alarm_at b)) e ∙ records_alarms b 0 (omega arith));
}

module _ {b : Bytes} {i found : ℕ} {l rest : List ℕ} (p : Passed b l found) (here : l ≡ i ∷ rest) where
  -- the severity of the alarm that the walk is at
  pub passed_severity : {c : Bytes} {v : ℕ} → c ≡ (record_of b i).content → v ≡ (read_alarm c).severity → v < 8
  passed_severity ec ev = rw (ev, ec) (omega (arith, (payload_legal _ _ (ahead_alarm p.ahead here).legal).severity))

  -- of the payload c of that record, v is the severity, x the state, and w the flag
  pub passed_next :
      {c : Bytes} {v x w : ℕ} → c ≡ (record_of b i).content → v ≡ (read_alarm c).severity → x ≡ (read_alarm c).state → w ≡ flag_of x v → Passed b rest (bit_or found w)
  unfolding any
  passed_next {c} {v} {x} {w} ec ev ex ew =
      let a = alarm_at b i in
      let e : w ≡ flag_of a.state a.severity = rw (ew, ev, ex, ec) in
      record {
        ahead = ahead_next p.ahead here;
        small = or_lt 8 found w p.small (rw ew (flag_small x v (passed_severity ec ev)));
        same = λ s.
            ap (λ (y : Bool). y || is_flagged (map (alarm_at b) rest) s)
            (set_or found w s ∙ ap (λ (j : ℕ). is_set found s || is_set j s) e ∙ ap (λ (y : Bool). is_set found s || y) (flag_set a s))
            ∙ or_assoc (is_set found s) (sets_flag s a) (is_flagged (map (alarm_at b) rest) s)
            ∙ ap (λ (r : List ℕ). is_set found s || is_flagged (map (alarm_at b) r) s) (sym here)
            ∙ p.same s;
      }

pub passed_all : {b : Bytes} {l : List ℕ} {found : ℕ} → Passed b l found → l ≡ [] → found ≡ by_bits 8 (is_flagged (alarms_on 0 b))
unfolding any
passed_all {b} {l} {found} p end =
    let e : (s : ℕ) → is_set found s ≡ is_flagged (alarms_on 0 b) s = λ s. sym (or-false (is_set found s)) ∙ ap (λ (r : List ℕ). is_set found s || is_flagged (map (alarm_at b) r) s) (sym end) ∙ p.same s in
    sym (mod-eq_of_lt p.small) ∙ sym (bits_own 8 found) ∙ bits_same 8 (λ s h. e s)
