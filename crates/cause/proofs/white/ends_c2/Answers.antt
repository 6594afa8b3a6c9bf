-- White space after C2.
use native.Mathlib.Omega.{arith}
use borrow.Author.Tests.{ne_eqb}
use Rattle.octets.specs.Bytes.{begins}
use Rattle.octets.specs.BoolLaws.{and_true}
use Rattle.definition.specs.White.{space, front_of}
use Rattle.cause.proofs.Spaces.{eqb_swap}
use Rattle.cause.proofs.white.ends_c2.Goals as goal

pub returns-then-b-eq133 : goal.returns-then-b-eq133
unfolding space front_of begins
returns-then-b-eq133 c x = rw c.if-b-eq133.true

pub returns-else-b-eq133 : goal.returns-else-b-eq133
unfolding space front_of begins
returns-else-b-eq133 c x = rw (ne_eqb 0x85 c.args.b (omega arith), eqb_swap 0xA0 c.args.b, and_true)
