-- `raise_at`: an alarm that was found is updated; else a new one is stored.
use Rattle.register.specs.SearchLaws.{finds_first, finds_release}
use Rattle.reply.specs.Meaning.{numbered}
use Rattle.raising.specs.RaiseLaws.{raise_at_found, raise_at_none}
use Rattle.raising.proofs.raise_at.Goals as goal

pub update-requires : goal.update-requires
update-requires c =
    (c.requires.0, (finds_release c.requires.1 c.in-Some.is c.requires.0.standing.whole).on)

pub returns-in-Some : goal.returns-in-Some
returns-in-Some c =
    raise_at_found _ _ _ _ _ _ _ _ (finds_first c.requires.1 c.in-Some.is) c.update.ensures

pub returns-in-None : goal.returns-in-None
returns-in-None c =
    raise_at_none _ _ _ _ _ _ (numbered c.raise_new.result) (finds_first c.requires.1 c.in-None.is) c.raise_new.ensures
