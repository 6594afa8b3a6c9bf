-- `clear_at`: an alarm that was found is cleared; else there is none to clear.
use mathlib.Core.Path.{refl}
use Rattle.register.specs.SearchLaws.{finds_first, finds_release}
use Rattle.state.specs.ClearLaws.{clear_at_found, clear_at_none}
use Rattle.state.proofs.clear_at.Goals as goal

pub clear_found-requires : goal.clear_found-requires
clear_found-requires c =
    (c.requires.0.newest, finds_release c.requires.1 c.in-Some.is c.requires.0.newest.whole, c.requires.0.room)

pub returns-in-Some : goal.returns-in-Some
returns-in-Some c =
    clear_at_found _ _ _ _ _ _ _ _ (finds_first c.requires.1 c.in-Some.is) c.clear_found.ensures

pub returns-in-None : goal.returns-in-None
returns-in-None c =
    clear_at_none _ _ _ _ _ _ _ c.requires.0.newest.whole (finds_first c.requires.1 c.in-None.is) refl c.put_without.ensures
