-- What the structs of a raise and a clear mean: document 01's values.
use Rattle.std.specs.Prelude.{Bool, true, ltb}
use Rattle.octets.specs.Bytes.{Bytes}
use Rattle.definition.specs.Limits.{short_limit, text_limit, details_limit}
use Rattle.definition.specs.Value.{RaiseHeadValue, RaiseValue, ClearValue}
use Rattle.model.specs.Meaning.{part, opt_part, key_value, within, opt_within, KeyWithin}
use Rattle.model.specs.Meaning.{OptSpan}
use Rattle.std.specs.Prelude.{None, Some}
use Rattle.raise_fields.specs.declared.RaiseHead.{RaiseHead}
use Rattle.raise_fields.specs.declared.Raise.{Raise}
use Rattle.raise_fields.specs.declared.Clear.{Clear}

-- ---- values

abbrev pub head_value : Bytes → RaiseHead → RaiseHeadValue
head_value call h = record { time = h.time; id = part call h.id; type = part call h.alarm_type; severity = h.severity }

abbrev pub raise_value : Bytes → Raise → RaiseValue
raise_value call r =
    record { head = head_value call r.head; key = key_value call r.key; text = part call r.text; details = opt_part call r.details }

abbrev pub clear_value : Bytes → Clear → ClearValue
clear_value call r = record { time = r.time; type = part call r.alarm_type; key = key_value call r.key }

-- a region that is there has a byte
abbrev pub named_span : OptSpan → Bool
named_span None = true
named_span (Some p) = ltb 0 p.len

-- ---- every part lies within the call and its limit

pub record HeadWithin (call : Bytes) (h : RaiseHead) : Type 0 where
  pub id : within call short_limit h.id
  pub type : within call short_limit h.alarm_type

pub record RaiseWithin (call : Bytes) (r : Raise) : Type 0 where
  pub head : HeadWithin call r.head
  pub key : KeyWithin call r.key
  pub text : within call text_limit r.text
  pub details : opt_within call details_limit r.details

pub record ClearWithin (call : Bytes) (r : Clear) : Type 0 where
  pub type : within call short_limit r.alarm_type
  pub key : KeyWithin call r.key
