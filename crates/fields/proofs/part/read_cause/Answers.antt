-- `read_cause` meets its contract: the string, and the cause that its bytes are.
use native.Mathlib.Omega.{arith}
use Rattle.std.specs.Prelude.{refl}
use Rattle.octets.specs.PartLaws.{part_length, part_part}
use Rattle.definition.specs.Reader.{cause_text}
use Rattle.cause.specs.Meaning.{cause_value}
use Rattle.fields.specs.ReadingLaws.{step, stops, passes, done, handed}
use Rattle.fields.proofs.part.read_cause.Goals as goal

pub returns-in_err-string : goal.returns-in_err-string
unfolding cause_text
returns-in_err-string c = rw (handed _ c.from_residual.ensures) (stops _ c.in_err-string.ensures)

pub returns-in-None : goal.returns-in-None
unfolding cause_text cause_value
returns-in-None c =
    let h = rw c.part.ensures at c.in-None.ensures in
    passes _ c.in_ok-string.ensures.0 (rw (← h.0) (record { out = refl }))

pub returns-in-Some-Name : goal.returns-in-Some-Name
unfolding cause_text cause_value
returns-in-Some-Name c =
    let h = rw (c.part.ensures, c.in-Some-Name.field-0-is) at c.in-Some-Name.ensures in
    (step _ c.in_ok-string.ensures.0 (rw (← h.0) (done h.1)), c.in_ok-string.ensures.1)

pub returns-in-Some-Other : goal.returns-in-Some-Other
unfolding cause_text cause_value
returns-in-Some-Other c =
    let read = rw c.in-Some-Other.field-0-is at c.in-Some-Other.ensures in
    let h = rw c.part.ensures at read in
    let p = c.in_ok-string.field-0.value in
    let w = c.in_ok-string.ensures.0.lies in
    let l = part_length c.args.left.now p.at p.len w.0 in
    (step _ c.in_ok-string.ensures.0 (rw (← h.0, part_part c.args.left.now p.at c.in-Some-Other.at c.in-Some-Other.len p.len (omega arith)) (done (omega (arith, w.0), omega (arith, w.1)))), c.in_ok-string.ensures.1)
