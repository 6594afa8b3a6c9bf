-- `State::round`: each call says what it adds, and congruence joins them.
use Rattle.fips180.specs.Sha256.{round_of}
use Rattle.sha256.proofs.State.round.Goals as goal

pub returns : goal.returns
unfolding round_of
returns c = cc
