-- `sweep`: along the active chain, from its first record to its last.
use mathlib.Core.Path.{refl}
use native.Mathlib.Omega.{arith}
use borrow.Author.Rules.{rules}
use Rattle.expiry.specs.SweepLaws.{sweep_start, meets_fits, meets_free, sweep_end}
use Rattle.expiry.proofs.sweep.Goals as goal

pub held-n-requires : goal.held-n-requires
held-n-requires c = c.requires.whole

pub first-at-requires : goal.first-at-requires
first-at-requires c = c.requires.whole

pub loop-k-init : goal.loop-k-init
loop-k-init c =
    (sweep_start _ _ _ _ _ _ c.requires c.held-n.ensures c.first-at.ensures, refl)

pub next-next-requires : goal.next-next-requires
next-next-requires c = (meets_fits _ _ _ _ _ _ _ _ c.loop-k.invariant.0 c.loop-k-test.true)

pub pass-s-requires : goal.pass-s-requires
pass-s-requires c =
    (c.loop-k.invariant.0.newest, meets_free _ _ _ _ _ _ _ _ c.loop-k.invariant.0 c.loop-k-test.true, omega (arith, c.loop-k.invariant.0.few, c.loop-k-test.true))

pub loop-k-preserved : goal.loop-k-preserved
loop-k-preserved c =
    (c.pass-s.ensures _ _ _ _ c.loop-k.invariant.0 c.loop-k-test.true c.next-next.ensures, search rules)

pub returns : goal.returns
returns c = sweep_end _ _ _ _ _ _ _ _ c.loop-k.invariant.0 (omega (arith, c.loop-k-test.false))
