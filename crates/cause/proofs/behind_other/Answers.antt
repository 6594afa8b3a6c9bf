-- The mark, compared byte by byte.
use Rattle.cause.proofs.Ways.{marked}
use Rattle.definition.specs.Cause.{other}
use Rattle.cause.proofs.behind_other.Goals as goal

pub returns : goal.returns
returns c = let h = rw (marked other c.args.s.now) at c.strip_prefix.ensures in h.cases
