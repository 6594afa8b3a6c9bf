-- White space is passed from the start on; what is left trims to the same.
use mathlib.Core.Path.{◌∙◌, sym}
use native.Mathlib.Omega.{arith}
use Rattle.definition.proofs.Laws.Text.White.{start_plain}
use Rattle.cause.proofs.Trim.{start_step, space_part}
use Rattle.cause.proofs.Spaces.{found_space, found_none}
use Rattle.cause.proofs.white.trim_start.Goals as goal

pub loop-n-preserved : goal.loop-n-preserved
loop-n-preserved c =
    let f = found_space c.space.ensures.tells c.in-Some.is in
    let p = space_part c.args.s.now c.loop-n.start c.in-Some.n c.loop-n.invariant.0 f.1 in
    (p.1, start_step _ c.loop-n.start _ p.0 (λ z. omega (arith, f.0, z)) ∙ c.loop-n.invariant.1)

pub returns : goal.returns
returns c =
    let f = found_none c.space.ensures.tells c.in_default.is in
    let p = space_part c.args.s.now c.loop-n.start 0 c.loop-n.invariant.0 (sym f) in
    (c.loop-n.invariant.0, sym c.loop-n.invariant.1 ∙ start_plain _ (sym p.0))
