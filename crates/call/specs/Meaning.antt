-- What the parser's answer means: document 01's number and values for each of its cases.
use Rattle.std.specs.Prelude.{◌≡◌, Bool, true, cond, Result, Ok, Err}
use Rattle.octets.specs.Bytes.{Bytes}
use Rattle.definition.specs.Limits.{short_limit}
use Rattle.definition.specs.Value.{CallValue}
use Rattle.definition.specs.Parse.{is_later}
use Rattle.model.specs.Meaning.{opt_part, opt_within, action_of, deed_of}
use Rattle.model.specs.declared.Deed.TheVariants.{Until}
use Rattle.model.specs.declared.refusal.Refusal.{Refusal}
use Rattle.model.specs.Refusal.{refusal_number}
use Rattle.action_fields.specs.Meaning.{plain_value, policy_value, plain_within, PolicyWithin, plain_flag, verdict_flags}
use Rattle.raise_fields.specs.Meaning.{raise_value, clear_value, RaiseWithin, ClearWithin}
use Rattle.call.specs.declared.Parsed.{Parsed}
use Rattle.call.specs.declared.Parsed.TheVariants as P

-- ---- values

-- operations 1 to 14
abbrev pub meaning : Bytes → Parsed → CallValue
meaning call (P.Raise r) = CallValue.raise (raise_value call r)
meaning call (P.Clear r) = CallValue.clear (clear_value call r)
meaning call (P.Plain x p) = CallValue.plain (action_of x) (plain_value call p)
meaning call (P.Policy d p) = CallValue.policy (deed_of d) (policy_value call p)
meaning call (P.Expire t) = CallValue.expire t
meaning call (P.Active v) = CallValue.active v
meaning call (P.History t s) = CallValue.history (opt_part call t) (opt_part call s)
meaning call P.Counts = CallValue.counts
meaning call P.Summary = CallValue.summary
meaning call (P.TakeAudit n) = CallValue.take_audit n
meaning call (P.Lift t) = CallValue.lift t

-- a suppression's end is later than the call's time, where a call has one
abbrev pub later : Parsed → Bool
later (P.Policy (Until end) p) = is_later end p.actor.time
later _ = true

-- what the fields of a call say: the definition refuses an end that is not later as soon as all fields are read
abbrev pub said : Bytes → Parsed → CallValue
said call p = cond (later p) (meaning call p) (CallValue.refused 34)

-- a call, or a refusal by its number
abbrev pub outcome_value : Bytes → Result Parsed Refusal → CallValue
outcome_value call (Ok p) = meaning call p
outcome_value call (Err e) = CallValue.refused (refusal_number e)

-- ---- every part lies within the call and its limit

abbrev pub parsed_within : Bytes → Parsed → Type 0
parsed_within call (P.Raise r) = RaiseWithin call r
parsed_within call (P.Clear r) = ClearWithin call r
parsed_within call (P.Plain x p) = plain_within call p
parsed_within call (P.Policy d p) = PolicyWithin call p
parsed_within call (P.Expire t) = Unit
parsed_within call (P.Active v) = Unit
parsed_within call (P.History t s) = opt_within call short_limit t × opt_within call short_limit s
parsed_within call P.Counts = Unit
parsed_within call P.Summary = Unit
parsed_within call (P.TakeAudit n) = Unit
parsed_within call (P.Lift t) = Unit

abbrev pub outcome_within : Bytes → Result Parsed Refusal → Type 0
outcome_within call (Ok p) = parsed_within call p
outcome_within call (Err e) = Unit

-- ---- a flag that was read is 0 or 1

abbrev pub parsed_flags : Parsed → Type 0
parsed_flags (P.Plain x p) = plain_flag p
parsed_flags (P.Policy d p) = verdict_flags p.verdict
parsed_flags _ = Unit

-- ---- the words of contracts

-- an outcome means a call or a refusal, every part of it within its limit
abbrev pub Means : Bytes → Result Parsed Refusal → CallValue → Type 0
Means call outcome v = (outcome_value call outcome ≡ v) × outcome_within call outcome
