-- The bytes passed, joined by or, are below 128 where each of them is.
use mathlib.Core.Path.{refl}
use Rattle.utf8.specs.Meaning.{plain}
use Rattle.utf8.proofs.Plain.{plain_step}
use Rattle.utf8.proofs.is_ascii.Goals as goal

pub loop-b-init : goal.loop-b-init
unfolding plain
loop-b-init c = refl

pub loop-b-preserved : goal.loop-b-preserved
loop-b-preserved c =
    plain_step c.args.s.now c.loop-b.b-index c.loop-b.joined c.loop-b-test.true c.loop-b.invariant
