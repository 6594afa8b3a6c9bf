-- `end` is behind the last byte passed that stays; what lies between `end` and i is white space.
use mathlib.Core.Path.{◌∙◌, sym}
use native.Mathlib.Omega.{arith}
use Rattle.cause.proofs.Trim.{end_step, up_plain, up_end, up_none, space_part}
use Rattle.cause.proofs.Spaces.{found_space, found_none}
use Rattle.cause.proofs.white.trim_end.Goals as goal

pub loop-i-init : goal.loop-i-init
loop-i-init c = (omega arith, omega arith, up_none _)

pub loop-i-preserved-in-Some : goal.loop-i-preserved-in-Some
loop-i-preserved-in-Some c =
    let f = found_space c.space.ensures.tells c.in-Some.is in
    let p = space_part c.args.s.now c.loop-i.i c.in-Some.n c.loop-i.invariant.1 f.1 in
    (omega (arith, c.loop-i.invariant.0), p.1, c.loop-i.invariant.2 ∙ end_step _ c.loop-i.i _ p.0 (λ z. omega (arith, f.0, z)) c.loop-i.end c.loop-i.invariant.0 p.1)

pub loop-i-preserved : goal.loop-i-preserved
loop-i-preserved c =
    let f = found_none c.space.ensures.tells c.in_default.is in
    let p = space_part c.args.s.now c.loop-i.i 0 c.loop-i.invariant.1 (sym f) in (
      omega arith,
      omega arith,
      c.loop-i.invariant.2 ∙ up_plain _ c.loop-i.end c.loop-i.i c.loop-i.invariant.0 c.loop-i.invariant.1 c.loop-i-test.true (sym p.0),
    )

pub returns : goal.returns
returns c =
    (omega arith, c.loop-i.invariant.2 ∙ up_end _ c.loop-i.end c.loop-i.i c.loop-i-test.false)
