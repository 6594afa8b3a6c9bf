-- `clear`: the step, given what the search for the key found.
use Rattle.std.specs.Prelude.{Ok}
use Rattle.operations.specs.SearchLaws.{clear_sought}
use Rattle.operations.proofs.clear.Goals as goal

pub find_key-found-requires : goal.find_key-found-requires
find_key-found-requires c = c.requires.newest.whole

pub clear_at-requires : goal.clear_at-requires
clear_at-requires c =
    (c.requires, c.find_key-found.ensures)

pub returns : goal.returns
returns c =
    clear_sought (Ok c.clear_at.result) _ _ _ _ _ _ c.key_of-key.ensures c.clear_at.ensures
