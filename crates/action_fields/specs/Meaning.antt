-- What the fields of operations 3 to 6 and 13 mean: offsets and lengths become the bytes there.
use Rattle.std.specs.Prelude.{◌≤◌}
use Rattle.octets.specs.Bytes.{Bytes}
use Rattle.definition.specs.Limits.{short_limit, region_limit, text_limit}
use Rattle.definition.specs.Value.{PlainValue, ScopeValue, ActorValue, RequestValue, VerdictValue, PolicyValue}
use Rattle.model.specs.Meaning.{part, opt_part, within, opt_within}
use Rattle.action_fields.specs.declared.Plain.{Plain}
use Rattle.action_fields.specs.declared.Scope.{Scope}
use Rattle.action_fields.specs.declared.Scope.TheVariants as S
use Rattle.action_fields.specs.declared.Actor.{Actor}
use Rattle.action_fields.specs.declared.Request.{Request}
use Rattle.action_fields.specs.declared.Verdict.{Verdict}
use Rattle.action_fields.specs.declared.Policy.{Policy}

-- ---- values

abbrev pub plain_value : Bytes → Plain → PlainValue
plain_value call p = record { time = p.time; id = part call p.id; authorised = p.authorised }

-- 0 alarm with id, 1 tenant with string, 2 global
abbrev pub scope_value : Bytes → Scope → ScopeValue
scope_value call (S.Alarm p) = ScopeValue.alarm_scope (part call p)
scope_value call (S.Tenant p) = ScopeValue.tenant_scope (part call p)
scope_value call S.Global = ScopeValue.global_scope

abbrev pub actor_value : Bytes → Actor → ActorValue
actor_value call a = record { time = a.time; id = part call a.id; principal = part call a.principal; tenant = opt_part call a.tenant }

abbrev pub request_value : Bytes → Request → RequestValue
request_value call r = record { reason = part call r.reason; scope = scope_value call r.scope; correlation = opt_part call r.correlation }

abbrev pub verdict_value : Bytes → Verdict → VerdictValue
verdict_value call v = record { critical = v.critical_allowed; authorised = v.authorised; denial = part call v.denial }

abbrev pub policy_value : Bytes → Policy → PolicyValue
policy_value call p =
    record { actor = actor_value call p.actor; request = request_value call p.request; verdict = verdict_value call p.verdict }

-- ---- every part lies within the call and its limit

abbrev pub plain_within : Bytes → Plain → Type 0
plain_within call p = within call short_limit p.id

abbrev pub scope_within : Bytes → Scope → Type 0
scope_within call (S.Alarm p) = within call short_limit p
scope_within call (S.Tenant p) = within call short_limit p
scope_within call S.Global = Unit

pub record ActorWithin (call : Bytes) (a : Actor) : Type 0 where
  pub id : within call short_limit a.id
  pub principal : within call short_limit a.principal
  pub tenant : opt_within call short_limit a.tenant

pub record RequestWithin (call : Bytes) (r : Request) : Type 0 where
  pub reason : within call text_limit r.reason
  pub scope : scope_within call r.scope
  pub correlation : opt_within call short_limit r.correlation

abbrev pub verdict_within : Bytes → Verdict → Type 0
verdict_within call v = within call region_limit v.denial

pub record PolicyWithin (call : Bytes) (p : Policy) : Type 0 where
  pub actor : ActorWithin call p.actor
  pub request : RequestWithin call p.request
  pub verdict : verdict_within call p.verdict

-- ---- "authorised (0 or 1)": a flag that was read is one of these

abbrev pub plain_flag : Plain → Type 0
plain_flag p = p.authorised ≤ 1

abbrev pub verdict_flags : Verdict → Type 0
verdict_flags v = (v.critical_allowed ≤ 1) × (v.authorised ≤ 1)
