-- `collect`: the rows are the tally of the places passed.
use mathlib.Core.Path.{◌∙◌}
use native.Mathlib.Omega.{arith}
use Rattle.history.specs.WalkLaws.{reached_most}
use Rattle.metrics.specs.TableWalkLaws.{collecting_first, collecting_place, collecting_fits, collecting_small, collecting_at, collecting_next, collecting_all}
use Rattle.metrics.proofs.table.Table.collect.Goals as goal

pub loop-i-init : goal.loop-i-init
loop-i-init c =
    let n = c.requires.empty in
    (rw (n.0, n.1) (collecting_first _ _ c.requires.sound (c.into_iter-i-iterator.ensures.into_iter_gives ∙ c.records-i-items.ensures) n.3 n.4), n.2)

pub note-requires : goal.note-requires
note-requires c =
    let w = c.loop-i.invariant.0 in
    let here = c.in-Some.ensures.steps in
    (w.table.room, w.table.fit, collecting_fits w here, collecting_small w here)

pub returns-then-not-note : goal.returns-then-not-note
returns-then-not-note c =
    rw (c.note.ensures.left c.if-not-note.true) (collecting_at c.loop-i.invariant.0 c.in-Some.ensures.steps)

pub overflow_add-self : goal.overflow_add-self
overflow_add-self c =
    let p = collecting_place c.loop-i.invariant.0 c.in-Some.ensures.steps in
    omega (arith, c.note.ensures.same_place, p.within, reached_most p.reached)

pub loop-i-preserved : goal.loop-i-preserved
loop-i-preserved c =
    let w = c.loop-i.invariant in
    (rw (c.note.ensures.same_place) (collecting_next w.0 c.in-Some.ensures.steps (c.note.ensures.added c.if-not-note.false)), c.note.ensures.same_at ∙ w.1)

pub returns : goal.returns
returns c = rw (c.loop-i.invariant.1) (collecting_all c.loop-i.invariant.0 c.in-None.ensures.steps.0)
