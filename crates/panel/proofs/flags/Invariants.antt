-- `flags`: those of the records passed.
use Rattle.panel.specs.FlagLaws.{Passed}
use Rattle.panel.proofs.flags.Given as goal

abbrev pub invariant-loop-i : goal.invariant-loop-i
invariant-loop-i l = Passed l.register l.i-iterator l.found
