-- White space after E2.
use native.Mathlib.Omega.{arith}
use borrow.Author.Tests.{ne_eqb}
use Rattle.octets.specs.Bytes.{begins}
use Rattle.octets.specs.BoolLaws.{and_true}
use Rattle.definition.specs.White.{space, front_of}
use Rattle.cause.proofs.Spaces.{eqb_swap}
use Rattle.cause.proofs.white.ends_e2.Goals as goal

pub returns-in-128 : goal.returns-in-128
returns-in-128 c = rw c.in-128.is c.ends_e280.ensures

pub returns-in-129 : goal.returns-in-129
unfolding space front_of begins
returns-in-129 c = rw (c.in-129.is, eqb_swap 0x9F c.args.c, and_true)

pub returns-in_default : goal.returns-in_default
unfolding space front_of begins
returns-in_default c = simp (ne_eqb 0x80 c.args.b (omega arith), ne_eqb 0x81 c.args.b (omega arith))
