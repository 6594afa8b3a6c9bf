-- What a raise's news mean.
use Rattle.std.specs.Prelude.{ℕ, ◌≡◌, refl}
use Rattle.std.proofs.Math.Option.{Option}
use Rattle.octets.specs.Bytes.{Bytes}
use Rattle.definition.specs.Limits.{text_limit, details_limit}
use Rattle.definition.specs.Value.{RaiseValue}
use Rattle.definition.specs.Alarm.{Alarm, with_severity, with_text, with_details, with_state, with_updated, with_raises, late}
use Rattle.definition.specs.Record.{alarm_bytes}
use Rattle.definition.specs.Steps.{updated_state, one_more_raise, updated_by}
use Rattle.model.specs.Meaning.{part, opt_part, within, opt_within}
use Rattle.changes.specs.declared.News.{News}

-- a payload that holds an alarm holds what f makes of it afterwards
abbrev pub Turns : (Alarm → Alarm) → Bytes → Bytes → Type 0
Turns f b c = (a : Alarm) → b ≡ alarm_bytes a → c ≡ alarm_bytes (f a)

-- ---- "severity, text, details replaced; updated_at late"; one more raise

pub record NewsValue : Type 0 where
  pub time : ℕ
  pub severity : ℕ
  pub text : Bytes
  pub details : Option Bytes

abbrev pub news_of : Bytes → News → NewsValue
news_of call n = record { time = n.time; severity = n.severity; text = part call n.text; details = opt_part call n.details }

pub record NewsWithin (call : Bytes) (n : News) : Type 0 where
  pub text : within call text_limit n.text
  pub details : opt_within call details_limit n.details

abbrev pub updated_with : NewsValue → Alarm → Alarm
updated_with n a =
    with_severity n.severity (with_text n.text (with_details n.details
    (with_state (updated_state a.state) (with_updated (late n.time a.raised_at) (with_raises (one_more_raise a.raises) a)))))

abbrev pub news_in : RaiseValue → NewsValue
news_in c = record { time = c.head.time; severity = c.head.severity; text = c.text; details = c.details }

-- a raise brings its news
pub updated_with_lem : (c : RaiseValue) (a : Alarm) → updated_with (news_in c) a ≡ updated_by c a
unfolding updated_by
updated_with_lem c a = refl
