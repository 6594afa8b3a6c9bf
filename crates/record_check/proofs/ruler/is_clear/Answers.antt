-- The next two bytes; and the end of the shorter slice.
use Rattle.std.proofs.Common.{◌∙◌, ap₂, sym, ◌&&◌, nat_eq}
use Rattle.std.proofs.lemmas.Slice.Zip.{Zip-more, either_empty_from_Zip}
use Rattle.octets.specs.Bytes.{Bytes, blank}
use Rattle.record_check.specs.Ruler.{under}
use Rattle.record_check.specs.RulerLaws.{under_turn, under_end}
use Rattle.record_check.proofs.ruler.is_clear.Goals as goal

pub loop-x-preserved : goal.loop-x-preserved
loop-x-preserved c =
    let more = Zip-more c.loop-x.x-iterator c.next.new.self _ _ c.in-Some.is c.next.ensures.steps in
    c.loop-x.invariant
    ∙ ap₂ (λ (s r : Bytes). nat_eq c.loop-x.left 0 && blank (under s r)) more.0 more.1
    ∙ under_turn c.loop-x.left _ _ _ _

pub returns : goal.returns
returns c =
    sym (c.loop-x.invariant ∙ under_end c.loop-x.left _ _ (either_empty_from_Zip c.loop-x.x-iterator c.next.new.self _ c.in-None.is c.next.ensures.steps))
