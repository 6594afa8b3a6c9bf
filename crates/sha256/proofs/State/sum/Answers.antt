-- `State::sum`: each call says what it adds, and congruence joins them.
use Rattle.fips180.specs.Sha256.{sum_of}
use Rattle.sha256.proofs.State.sum.Goals as goal

pub returns : goal.returns
unfolding sum_of
returns c = cc
