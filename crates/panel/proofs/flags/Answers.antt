-- `flags`: those of the records passed.
use mathlib.Core.Path.{◌∙◌}
use Rattle.history.specs.LinkLaws.{ahead_fits}
use Rattle.panel.specs.FlagLaws.{passed_none, passed_severity, passed_next, passed_all}
use Rattle.panel.proofs.flags.Goals as goal

pub loop-i-init : goal.loop-i-init
loop-i-init c =
    passed_none c.requires (c.into_iter-i-iterator.ensures.into_iter_gives ∙ c.records-i-items.ensures)

pub payload-alarm-requires : goal.payload-alarm-requires
payload-alarm-requires c = ahead_fits c.loop-i.invariant.ahead c.in-Some.ensures.steps

pub flag-found-requires : goal.flag-found-requires
flag-found-requires c = passed_severity c.loop-i.invariant c.in-Some.ensures.steps c.payload-alarm.ensures c.severity.ensures

pub loop-i-preserved : goal.loop-i-preserved
loop-i-preserved c =
    passed_next c.loop-i.invariant c.in-Some.ensures.steps c.payload-alarm.ensures c.severity.ensures c.state.ensures c.flag-found.ensures

pub returns : goal.returns
returns c = passed_all c.loop-i.invariant c.in-None.ensures.steps.0
