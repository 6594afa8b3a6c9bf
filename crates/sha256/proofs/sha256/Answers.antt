-- `sha256`: congruence joins what the calls say.
use Rattle.std.proofs.Common.{ap, ◌∙◌}
use Rattle.fips180.specs.Sha256.{digest_of, sha256_of}
use Rattle.sha256.proofs.sha256.Goals as goal

pub returns : goal.returns
unfolding sha256_of
returns c = c.digest.ensures ∙ ap digest_of c.blocks-2.ensures
