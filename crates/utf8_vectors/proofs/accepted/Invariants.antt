-- `accepted` is safe: the count is at most the number of turns.
use Rattle.std.proofs.Common.{◌≤◌}
use Rattle.utf8_vectors.proofs.accepted.Given as goal

abbrev pub invariant-loop-out : goal.invariant-loop-out
invariant-loop-out g l = l.count ≤ l.out
