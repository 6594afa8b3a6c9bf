-- `summary`: the numbers of the header, and the headline.
use mathlib.Core.Path.{◌∙◌}
use Rattle.metrics.specs.SummaryLaws.{summarised}
use Rattle.metrics.proofs.summary.Goals as goal

pub returns : goal.returns
returns c =
    summarised _ _ _ _ _ _ _ _ _ c.requires.0 c.held-active.ensures (c.unwrap_or.ensures ∙ c.read-found.ensures.worst_value) c.read-found.ensures.readiness_value c.successes-successes.ensures c.failures-failures.ensures
    c.put_summary.ensures
