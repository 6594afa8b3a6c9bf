-- `requires_explicit_suppression_policy`: critical, or else of a guarded cause.
use borrow.Author.Tests.{eq-eqb, ne_eqb}
use mathlib.Core.Path.{ap, ◌∙◌}
use Rattle.definition.specs.Alarm.{guarded, is_critical}
use Rattle.definition.specs.Cause.{one_of}
use Rattle.security.proofs.requires_explicit_suppression_policy.Goals as goal

pub returns-then-severity : goal.returns-then-severity
unfolding is_critical
returns-then-severity c = rw (← c.severity.ensures, eq-eqb _ _ c.if-severity.true)

pub returns-else-severity : goal.returns-else-severity
unfolding is_critical
returns-else-severity c =
    rw (← c.severity.ensures, ne_eqb _ _ c.if-severity.false) (c.is_guarded.ensures ∙ ap (one_of guarded) c.cause.ensures)
