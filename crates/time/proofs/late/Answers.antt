-- The test is the definition's.
use Rattle.std.proofs.Common.{sym, ◌∙◌}
use Rattle.definition.specs.Alarm.{late}
use Rattle.time.proofs.late.Goals as goal

pub returns-then-is_before : goal.returns-then-is_before
unfolding late
returns-then-is_before c = rw (sym c.is_before.ensures ∙ c.if-is_before.true)

pub returns-else-is_before : goal.returns-else-is_before
unfolding late
returns-else-is_before c = rw (sym c.is_before.ensures ∙ c.if-is_before.false)
