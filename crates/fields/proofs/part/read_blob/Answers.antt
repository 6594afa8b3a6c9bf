-- `read_blob` meets its contract: its length, the limit, then its bytes.
use native.Mathlib.Omega.{arith}
use borrow.Author.Tests.{le-leb, lt-leb}
use Rattle.definition.specs.Reader.{blob}
use Rattle.octets.specs.PartLaws.{part_rest}
use Rattle.fields.specs.BytesLaws.{blob_taken}
use Rattle.fields.specs.ReadingLaws.{stops, passes, fails, handed}
use Rattle.fields.specs.MovedLaws.{carried, carried_refusal, span_moves, length_part_rest}
use Rattle.fields.proofs.part.read_blob.Goals as goal

pub returns-in_err-value : goal.returns-in_err-value
unfolding blob
returns-in_err-value c = rw (handed _ c.from_residual.ensures) (stops _ c.in_err-value.ensures)

pub returns-then-len-limit : goal.returns-then-len-limit
unfolding blob
returns-then-len-limit c = passes _ c.in_ok-value.ensures.0 (fails _ (lt-leb _ _ c.if-len-limit.true))

pub returns-in_err-string : goal.returns-in_err-string
unfolding blob
returns-in_err-string c =
    rw (handed _ c.from_residual-in_err-string.ensures) (passes _ c.in_ok-value.ensures.0 (rw (le-leb _ _ c.if-len-limit.false) (carried_refusal (part_rest c.args.left.now c.in_ok-value.field-0.next) c.in_err-string.ensures)))

pub returns : goal.returns
returns c =
    let string = carried (part_rest c.args.left.now c.in_ok-value.field-0.next) (span_moves _) c.in_ok-value.ensures.1 c.in_ok-string.ensures.0 in
    let read = blob_taken c.in_ok-value.ensures.0 c.if-len-limit.false string in
    rw (c.behind.ensures.value, c.behind.ensures.next) (read, omega (arith, length_part_rest c.args.left.now c.in_ok-value.field-0.next, c.in_ok-value.ensures.1, c.in_ok-string.ensures.1))
