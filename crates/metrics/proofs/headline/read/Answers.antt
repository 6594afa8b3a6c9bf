-- `read`: the worst severity and impact of the records passed.
use mathlib.Core.Path.{◌∙◌}
use Rattle.history.specs.LinkLaws.{ahead_fits}
use Rattle.metrics.specs.HeadlineLaws.{passed_none, passed_next, passed_all}
use Rattle.metrics.proofs.headline.read.Goals as goal

pub loop-i-init : goal.loop-i-init
loop-i-init c =
    passed_none c.requires (c.into_iter-i-iterator.ensures.into_iter_gives ∙ c.records-i-items.ensures)

pub payload-alarm-requires : goal.payload-alarm-requires
payload-alarm-requires c = ahead_fits c.loop-i.invariant.ahead c.in-Some.ensures.steps

pub loop-i-preserved : goal.loop-i-preserved
loop-i-preserved c =
    passed_next c.loop-i.invariant c.in-Some.ensures.steps c.payload-alarm.ensures c.severity.ensures c.state.ensures c.shown-severity.ensures c.max-worst.ensures c.readiness.ensures
    c.max-impact.ensures

pub returns : goal.returns
returns c =
    let p = passed_all c.loop-i.invariant c.in-None.ensures.steps.0 in
    record { worst_value = p.0; readiness_value = p.1 }
