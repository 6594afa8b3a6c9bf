-- What was read of the part of a call from a place on, in the call's places.
use Rattle.std.specs.Prelude.{ℕ, ◌+◌, None, Some}
use Rattle.model.specs.declared.Span.{Span}
use Rattle.model.specs.Meaning.{OptSpan}
use Rattle.model.specs.declared.CauseSpan.{CauseSpan}
use Rattle.model.specs.declared.CauseSpan.TheVariants.{Name, Other}

abbrev pub span_on : ℕ → Span → Span
span_on i p = record { at = i + p.at; len = p.len }

abbrev pub option_on : ℕ → OptSpan → OptSpan
option_on i None = None
option_on i (Some p) = Some (span_on i p)

abbrev pub cause_on : ℕ → CauseSpan → CauseSpan
cause_on i (Name k) = Name k
cause_on i (Other p) = Other (span_on i p)

-- where a span starts, if there is one
abbrev pub option_start : OptSpan → ℕ
option_start None = 0
option_start (Some p) = p.at

abbrev pub cause_start : CauseSpan → ℕ
cause_start (Name k) = 0
cause_start (Other p) = p.at
