-- What is stored of what is not a name.
use Rattle.cause.proofs.Ways.{stored_behind}
use Rattle.cause.proofs.other_stored.Goals as goal

pub returns : goal.returns
returns c = stored_behind _ _ _ c.requires c.behind_other.ensures c.is_some_and.ensures
