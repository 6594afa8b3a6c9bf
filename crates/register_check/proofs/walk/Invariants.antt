-- At each turn the records passed are of the chain, the rest of the way decides, and the next record is known.
use Rattle.register_check.specs.Meaning.{Linked, passes}
use Rattle.register_check.proofs.WalkLaws.{Tested}
use Rattle.register_check.proofs.walk.Given as goal

abbrev pub invariant-loop : goal.invariant-loop
invariant-loop l =
    Tested (passes l.chain) l.register l.capacity l.count l.head l.at l.last l.counter × Linked l.register l.capacity l.at l.next
