-- `number`: the number of the bytes passed, with the others still to be read behind it.
use mathlib.Core.Path.{◌≡◌, ◌∙◌, sym, refl}
use native.Mathlib.Omega.{arith}
use lib.ListN.{length}
use Rattle.octets.proofs.NumberSteps.{value_step, value_end, grows, room}
use Prim.Native.Nat.{◌<◌}
use borrow.Author.Rules.{rules}
use Rattle.octets.proofs.number.Goals as goal

pub loop-byte-init : goal.loop-byte-init
loop-byte-init c = (search rules, refl)

pub overflow_mul-v : goal.overflow_mul-v
overflow_mul-v c = let l = c.loop-byte in omega (arith, room l.byte-index l.v (omega arith) l.invariant.0)

pub overflow_add-v : goal.overflow_add-v
overflow_add-v c = let l = c.loop-byte in omega (arith, room l.byte-index l.v (omega arith) l.invariant.0)

pub loop-byte-preserved : goal.loop-byte-preserved
loop-byte-preserved c =
    let l = c.loop-byte in
    let b : c.from.result < 256 = omega (arith, c.type_inv.s l.byte-index) in
    (grows l.byte-index l.v _ l.invariant.0 b, value_step _ l.byte-index l.v _ c.loop-byte-test.true c.from.ensures ∙ l.invariant.1)

pub returns : goal.returns
returns c =
    let l = c.loop-byte in
    let s = c.args.s.now in
    let e : l.byte-index ≡ length s = omega arith in
    (sym (value_end s l.byte-index l.v (omega arith)) ∙ l.invariant.1, rw (← e) l.invariant.0)
