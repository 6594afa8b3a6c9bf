-- `read`: the worst severity and impact of the records passed.
use Rattle.metrics.specs.HeadlineLaws.{Passed}
use Rattle.metrics.proofs.headline.read.Given as goal

abbrev pub invariant-loop-i : goal.invariant-loop-i
invariant-loop-i l = Passed l.register l.worst l.impact l.i-iterator
