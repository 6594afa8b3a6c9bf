-- `show`: soundness first, and then the block.
use Rattle.panel.specs.Meaning.{call_of}
use Rattle.station.specs.PanelLaws.{shown, not_shown}
use Rattle.station.proofs.show.Goals as goal

pub show-requires : goal.show-requires
show-requires c =
    c.in-Some.ensures.whole

pub returns-in-Some : goal.returns-in-Some
returns-in-Some c =
    let g = c.in-Some.ensures in
    shown _ _ _ c.args.call _ g.whole c.show.ensures

pub returns-in-None : goal.returns-in-None
returns-in-None c =
    not_shown c.args.register.now _ (call_of c.args.call) c.in-None.ensures
