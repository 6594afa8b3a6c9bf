-- `plain_on`: the alarm is acted on where it is found.
use mathlib.Core.Path.{refl}
use Rattle.register.specs.SearchLaws.{finds_first, finds_release}
use Rattle.model.specs.Meaning.{action_of}
use Rattle.state.specs.ActLaws.{on_found, on_none}
use Rattle.state.proofs.plain_on.Goals as goal

pub find_id-requires : goal.find_id-requires
find_id-requires c = c.requires.0.whole

pub act-requires : goal.act-requires
act-requires c =
    (c.requires.0, (finds_release c.find_id.ensures c.in-Some.is c.requires.0.whole).on, tt, c.requires.2)

pub returns-in-Some : goal.returns-in-Some
returns-in-Some c flag set =
    on_found (action_of c.args.action) _ _ _ _ _ _ _ c.requires.0.whole flag set _ (finds_first c.find_id.ensures c.in-Some.is) c.act.ensures

pub returns-in-None : goal.returns-in-None
returns-in-None c flag set =
    on_none (action_of c.args.action) _ _ _ _ _ _ _ c.requires.0.whole flag set
    (finds_first c.find_id.ensures c.in-None.is) refl c.put_text.ensures
