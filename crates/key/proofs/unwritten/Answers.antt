-- `unwritten` meets its contract: the definition asks what the code does.
use Prim.Native.Nat.{◌/◌}
use native.Mathlib.Omega.{arith}
use borrow.Author.Tests.{lt-ltb, le-ltb}
use Rattle.definition.specs.Key.{digits_from, decimal}
use Rattle.key.proofs.unwritten.Goals as goal

pub returns-then-q-lt10 : goal.returns-then-q-lt10
unfolding digits_from decimal
returns-then-q-lt10 c = simp (lt-ltb _ _ c.if-q-lt10.true)

pub returns-then-q-lt10-2 : goal.returns-then-q-lt10-2
unfolding digits_from decimal
returns-then-q-lt10-2 c = simp (le-ltb _ _ c.if-q-lt10.false, lt-ltb _ _ c.if-q-lt10-2.true)

pub returns-then-q-lt10-3 : goal.returns-then-q-lt10-3
unfolding digits_from decimal
returns-then-q-lt10-3 c = simp (le-ltb _ _ c.if-q-lt10.false, le-ltb _ _ c.if-q-lt10-2.false, lt-ltb _ _ c.if-q-lt10-3.true)

pub returns-then-q-lt10-4 : goal.returns-then-q-lt10-4
unfolding digits_from decimal
returns-then-q-lt10-4 c = simp (le-ltb _ _ c.if-q-lt10.false, le-ltb _ _ c.if-q-lt10-2.false, le-ltb _ _ c.if-q-lt10-3.false, lt-ltb _ _ c.if-q-lt10-4.true)

pub returns-else-q-lt10-4 : goal.returns-else-q-lt10-4
unfolding digits_from decimal
returns-else-q-lt10-4 c =
    simp (le-ltb _ _ c.if-q-lt10.false, le-ltb _ _ c.if-q-lt10-2.false, le-ltb _ _ c.if-q-lt10-3.false, le-ltb _ _ c.if-q-lt10-4.false, lt-ltb (c.args.q / 10 / 10 / 10 / 10) 10 (omega arith))
