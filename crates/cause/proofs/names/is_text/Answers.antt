-- The bytes passed are the same where the or of what they differ in is zero.
use mathlib.Core.Path.{refl, sym, ◌∙◌, ◌≡◌}
use Prim.Native.Nat.{min}
use native.Mathlib.Omega.{arith}
use lib.ListN.{length, length-append}
use borrow.Author.Rules.{rules}
use Rattle.std.proofs.lemmas.Slice.Zip.{zip_turn, zip_end}
use Rattle.octets.specs.BoolLaws.{and_true}
use Rattle.octets.specs.SameLaws.{same_lengths, same_end}
use Rattle.cause.proofs.Xor.{xor_step}
use Rattle.cause.proofs.names.is_text.Goals as goal

pub returns-then-s-text : goal.returns-then-s-text
returns-then-s-text c = sym (same_lengths _ _ (λ e. c.if-s-text.true (sym e)))

pub loop-x-init : goal.loop-x-init
loop-x-init c = refl

pub loop-x-preserved : goal.loop-x-preserved
loop-x-preserved c =
    let at = zip_turn c.args.text.now c.args.s.now c.loop-x.yielded c.into_iter-x-iterator.result c.loop-x.x-iterator c.next.new.self c.next.result (search rules) (search rules) c.loop-x.yielded_by (c.in-Some.x, c.in-Some.y) c.in-Some.is c.next.ensures.steps in
    rw (length-append, at.2 0, at.3 0) (xor_step c.args.text.now c.args.s.now (length c.loop-x.yielded) c.loop-x.difference at.0 at.1 ∙ c.loop-x.invariant)

pub returns : goal.returns
returns c =
    let n : length c.loop-x.yielded ≡ min (length c.args.text.now) (length c.args.s.now) = zip_end c.args.text.now c.args.s.now c.loop-x.yielded c.into_iter-x-iterator.result c.loop-x.x-iterator c.next.new.self c.next.result (search rules) (search rules) c.loop-x.yielded_by c.in-None.is c.next.ensures.steps in
    rw (same_end c.args.text.now c.args.s.now (length c.loop-x.yielded) (omega arith) (omega arith), and_true) at c.loop-x.invariant
