-- "For each answer that is an enum, a definition gives this paper's number and values for every case": the number of a code.
use Rattle.std.specs.Prelude.{ℕ}
use Rattle.answers.specs.declared.code.Code.{Code}
use Rattle.answers.specs.declared.code.Code.TheVariants.{Raised, Updated, Cleared, ClearWithoutActive, ActiveLimitExceeded, Suppressed, Acknowledged, Unauthorized, AuditFailed, NotFound, Report}

-- "Codes 1 to 10 are `AlarmOpResult` in its order; 11 for ops 7 to 12"
abbrev pub code_number : Code → ℕ
code_number Raised = 1
code_number Updated = 2
code_number Cleared = 3
code_number ClearWithoutActive = 4
code_number ActiveLimitExceeded = 5
code_number Suppressed = 6
code_number Acknowledged = 7
code_number Unauthorized = 8
code_number AuditFailed = 9
code_number NotFound = 10
code_number Report = 11
