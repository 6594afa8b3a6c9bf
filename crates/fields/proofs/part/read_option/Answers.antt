-- `read_option` meets its contract: byte 0, or byte 1 and the string.
use native.Mathlib.Omega.{arith}
use borrow.Author.Tests.{eq-eqb, ne_eqb}
use Rattle.octets.specs.PartLaws.{part_rest}
use Rattle.definition.specs.Reader.{optional}
use Rattle.fields.specs.ReadingLaws.{step, stops, passes, done, handed}
use Rattle.fields.specs.MovedLaws.{carried, carried_refusal, span_moves, length_part_rest}
use Rattle.fields.proofs.part.read_option.Goals as goal

pub returns-in_err-mark : goal.returns-in_err-mark
unfolding optional
returns-in_err-mark c = rw (handed _ c.from_residual.ensures) (stops _ c.in_err-mark.ensures)

pub returns-then-mark-eq0 : goal.returns-then-mark-eq0
unfolding optional
returns-then-mark-eq0 c =
    (step _ c.in_ok-mark.ensures.0 (rw (eq-eqb _ _ c.if-mark-eq0.true) (done tt)), c.in_ok-mark.ensures.1)

pub returns-in_err-read_string : goal.returns-in_err-read_string
unfolding optional
returns-in_err-read_string c =
    rw (handed _ c.from_residual-in_err-read_string.ensures)
    (passes _ c.in_ok-mark.ensures.0 (rw (ne_eqb _ _ c.if-mark-eq0.false) (stops _ (carried_refusal (part_rest c.args.left.now c.in_ok-mark.field-0.next) c.in_err-read_string.ensures))))

pub returns : goal.returns
unfolding optional
returns c =
    let string = carried (part_rest c.args.left.now c.in_ok-mark.field-0.next) (span_moves _) c.in_ok-mark.ensures.1 c.in_ok-read_string.ensures.0 in
    rw (c.behind-next.ensures.value, c.behind-next.ensures.next)
    (step _ c.in_ok-mark.ensures.0 (rw (ne_eqb _ _ c.if-mark-eq0.false) (step _ string (done string.lies))), omega (arith, length_part_rest c.args.left.now c.in_ok-mark.field-0.next, c.in_ok-mark.ensures.1, c.in_ok-read_string.ensures.1))
