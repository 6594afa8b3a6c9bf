-- `same`: the severities, and then the causes.
use mathlib.Core.Path.{sym, ap₂, ◌∙◌}
use borrow.Author.Tests.{eq-eqb, ne_eqb}
use Rattle.octets.specs.Bytes.{same}
use Rattle.metrics.proofs.rating.same.Goals as goal

pub returns-then-severity : goal.returns-then-severity
returns-then-severity c =
    rw (ne_eqb _ _ (λ e. c.if-severity.true (c.severity.ensures ∙ e ∙ sym c.severity-2.ensures)))

pub returns : goal.returns
returns c =
    rw (eq-eqb _ _ (sym c.severity.ensures ∙ c.if-severity.false ∙ c.severity-2.ensures)) (c.equal.ensures ∙ ap₂ same c.cause.ensures c.cause-2.ensures)
