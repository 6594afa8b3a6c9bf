-- `is_guarded`: the names are those of the definition.
use Rattle.definition.specs.Cause.{one_of}
use Rattle.security.proofs.is_guarded.Goals as goal

pub returns : goal.returns
unfolding one_of
returns c = c.is_one_of.ensures
