-- At each turn the records passed are of the chain, the rest of the way decides, and the next record is known.
use mathlib.Core.Path.{◌∙◌, sym, ap}
use borrow.Author.Rules.{rules}
use Rattle.definition.proofs.Laws.Book.LinkLoops.{went_zero, went_past}
use Rattle.register.specs.WalkLaws.{content_width}
use Rattle.register_check.specs.Meaning.{holds}
use Rattle.register_check.proofs.WalkLaws.{tested_start, tested_on, tested_not, tested_gives}
use Rattle.register_check.proofs.walk.Goals as goal

pub loop-init : goal.loop-init
loop-init c = (tested_start _ _ _ _ _, c.link_of-next.ensures)

pub returns-then-at-eq0 : goal.returns-then-at-eq0
returns-then-at-eq0 c = λ p e. went_zero _ _ _ _ c.loop.at c.loop.last c.loop.counter c.loop.invariant.0.went (search rules) c.if-at-eq0.true p

pub returns-then-capacity-at : goal.returns-then-capacity-at
returns-then-capacity-at c = λ p e. went_past _ _ _ _ c.loop.at c.loop.last c.loop.counter c.loop.invariant.0.went (search rules) c.if-capacity-at.true p

pub payload_ok-requires : goal.payload_ok-requires
payload_ok-requires c =
    content_width c.args.register.now c.loop.at (search rules) c.payload.ensures

pub returns-then-not-payload_ok : goal.returns-then-not-payload_ok
returns-then-not-payload_ok c =
    λ p. tested_not _ _ _ _ _ c.loop.at c.loop.last c.loop.counter c.loop.invariant.0 (search rules) ((ap (holds c.args.chain) (sym c.payload.ensures) ∙ sym c.payload_ok.ensures) ∙ c.if-not-payload_ok.true)

pub loop-preserved : goal.loop-preserved
loop-preserved c = (
  tested_on _ _ _ _ _ c.loop.at c.loop.last c.loop.counter c.loop.invariant.0 (search rules) c.if-at-eq0.false (search rules) ((ap (holds c.args.chain) (sym c.payload.ensures) ∙ sym c.payload_ok.ensures) ∙ c.if-not-payload_ok.false) _ (c.loop.invariant.1 c.if-at-eq0.false (search rules)),
  c.link_of-link.ensures,
)

pub returns : goal.returns
returns c = rw c.then_some.ensures (tested_gives _ _ _ _ _ _ _ _ c.loop.invariant.0 c.loop-test.false)
