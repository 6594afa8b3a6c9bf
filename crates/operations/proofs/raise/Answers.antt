-- `raise`: the step, given what the search for the key found.
use Rattle.reply.specs.Meaning.{numbered}
use Rattle.operations.specs.SearchLaws.{raise_sought}
use Rattle.operations.proofs.raise.Goals as goal

pub find_key-found-requires : goal.find_key-found-requires
find_key-found-requires c = c.requires.standing.whole

pub raise_at-requires : goal.raise_at-requires
raise_at-requires c =
    (c.requires, c.find_key-found.ensures)

pub returns : goal.returns
returns c =
    raise_sought (numbered c.raise_at.result) _ _ _ _ _ _ c.key_of-key.ensures c.raise_at.ensures
