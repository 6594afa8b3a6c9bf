-- `blocks`: the state is the hash value after i blocks.
use Rattle.std.proofs.Common.{◌≡◌}
use Rattle.fips180.specs.Sha256.{padded, blocks_of}
use Rattle.sha256.specs.HashOf.{hash_of}
use Rattle.sha256.proofs.blocks.Given as goal

abbrev pub invariant-loop-i : goal.invariant-loop-i
invariant-loop-i l = hash_of l.state ≡ blocks_of (padded l.message) l.i
