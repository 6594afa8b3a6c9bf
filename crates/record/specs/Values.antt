-- "For each answer that is an enum, a definition gives this paper's number and values for every case": the bytes of severities and states.
use Rattle.std.specs.Prelude.{ℕ}
use Rattle.record.specs.declared.values.Severity.{Severity}
use Rattle.record.specs.declared.values.Severity.TheVariants as severities
use Rattle.record.specs.declared.values.State.{State}
use Rattle.record.specs.declared.values.State.TheVariants as states

-- "Severity: 0 cleared, 1 indeterminate, 2 warning, 3 minor, 4 major, 5 critical"
abbrev pub severity_number : Severity → ℕ
severity_number severities.Cleared = 0
severity_number severities.Indeterminate = 1
severity_number severities.Warning = 2
severity_number severities.Minor = 3
severity_number severities.Major = 4
severity_number severities.Critical = 5

-- "States: 0 raised, 1 updated, 2 acknowledged, 3 suppressed (active); 4 cleared, 5 expired"
abbrev pub state_number : State → ℕ
state_number states.Raised = 0
state_number states.Updated = 1
state_number states.Acknowledged = 2
state_number states.Suppressed = 3
state_number states.Cleared = 4
state_number states.Expired = 5
