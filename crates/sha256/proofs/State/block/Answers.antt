-- `State::block`: congruence joins what the calls say.
use Rattle.fips180.specs.Sha256.{block_of}
use Rattle.sha256.proofs.State.block.Goals as goal

pub returns : goal.returns
unfolding block_of
returns c = cc
