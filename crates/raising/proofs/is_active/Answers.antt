-- `is_active`: whether the search finds one.
use Rattle.std.proofs.Common.{ap, ◌∙◌}
use Rattle.octets.specs.Bytes.{Bytes}
use Rattle.definition.specs.Chain.{present, first}
use Rattle.definition.specs.Alarm.{has_id}
use Rattle.definition.specs.Sound.{station}
use Rattle.register.specs.SearchLaws.{finds_present}
use Rattle.raising.proofs.is_active.Goals as goal

pub find_id-requires : goal.find_id-requires
find_id-requires c = c.requires.0

pub returns : goal.returns
returns c =
    c.is_some.ensures ∙ finds_present c.find_id.ensures
    ∙ ap (λ (x : Bytes). present (first (has_id x) (station c.args.register.now).active)) c.part.ensures
