-- A cause in its stored form is within the limit of a cause. For `strings`, and for `key`, which makes room for it.
use Rattle.std.specs.Prelude.{ℕ, ◌≤◌, ◌<◌, [], length, drop, get_or, leb}
use Rattle.std.proofs.Common.{arith, length-take, length-append, leb→le}
use Rattle.octets.specs.Bytes.{Bytes}
use Rattle.octets.specs.RangeLaws.{on_range}
use Rattle.definition.specs.Limits.{cause_limit}
use Rattle.definition.specs.Cause.{names, other}
use Rattle.model.specs.declared.CauseSpan.{CauseSpan}
use Rattle.model.specs.declared.CauseSpan.TheVariants.{Name, Other}
use Rattle.model.specs.Meaning.{part, cause_part, cause_within}

pub name_length : (k : ℕ) → k < 21 → length (get_or names k []) ≤ cause_limit
name_length k h = leb→le _ _ (on_range (λ (m : ℕ). leb (length (get_or names m [])) cause_limit) 21 0 tt k (omega arith) (omega arith))

pub stored_length : (call : Bytes) (c : CauseSpan) → cause_within call c → length (cause_part call c) ≤ cause_limit
stored_length call (Name k) w = name_length k w
stored_length call (Other p) w = omega (arith, length-append other (part call p), length-take p.len (drop p.at call))
