-- `read_choice` meets its contract: a byte, and whether it is among its values.
use Rattle.std.specs.Prelude.{◌≡◌, ◌&&◌, leb, true, false}
use Rattle.std.proofs.Common.{arith}
use Rattle.std.proofs.lemmas.Bool.Decides.{nat_tests}
use Rattle.std.proofs.lemmas.Grind.{common_steps}
use Rattle.definition.specs.Reader.{choice}
use Rattle.fields.specs.ReadingLaws.{step, stops, passes, done, tested, fails, handed}
use Rattle.fields.proofs.part.read_choice.Goals as goal

pub returns-in_err-value : goal.returns-in_err-value
unfolding choice
returns-in_err-value c = rw (handed _ c.from_residual.ensures) (stops _ c.in_err-value.ensures)

pub returns-then-not-contains : goal.returns-then-not-contains
unfolding choice
returns-then-not-contains c =
    let no : (leb c.args.lo c.in_ok-value.field-0.value && leb c.in_ok-value.field-0.value c.args.hi) ≡ false = grind (arith, nat_tests, common_steps) in
    passes _ c.in_ok-value.ensures.0 (fails _ no)

pub returns : goal.returns
unfolding choice
returns c =
    let read = c.in_ok-value.ensures in
    let yes : (leb c.args.lo c.in_ok-value.field-0.value && leb c.in_ok-value.field-0.value c.args.hi) ≡ true = grind (arith, nat_tests, common_steps) in
    (step _ read.0 (tested _ yes (done (grind (arith, nat_tests)))), read.1)
