-- Those passed are counted.
use Rattle.std.proofs.Common.{◌≡◌, take}
use Rattle.std.specs.Prelude.{not}
use Rattle.std.specs.List.{count_by}
use Rattle.definition.specs.Utf8.{inside, tail}
use Rattle.utf8.proofs.leads.Given as goal

abbrev pub invariant-loop-b : goal.invariant-loop-b
invariant-loop-b l = l.n ≡ count_by (λ b. not (inside tail b)) (take l.b-index l.s)
