-- `State::rounds`: after t turns the state is that after t rounds.
use Rattle.std.proofs.Common.{◌≡◌, length}
use Rattle.fips180.specs.Sha256.{rounds_of}
use Rattle.sha256.specs.HashOf.{hash_of}
use Rattle.sha256.proofs.State.rounds.Given as goal

abbrev pub invariant-loop-k : goal.invariant-loop-k
invariant-loop-k l = hash_of l.state ≡ rounds_of l.schedule (hash_of l.fn.self) (length l.yielded)
