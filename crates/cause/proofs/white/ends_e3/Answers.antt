-- White space after E3.
use native.Mathlib.Omega.{arith}
use borrow.Author.Tests.{ne_eqb}
use Rattle.octets.specs.Bytes.{begins}
use Rattle.octets.specs.BoolLaws.{and_true}
use Rattle.definition.specs.White.{space, front_of}
use Rattle.cause.proofs.Spaces.{eqb_swap}
use Rattle.cause.proofs.white.ends_e3.Goals as goal

pub returns-then-b-eq128 : goal.returns-then-b-eq128
unfolding space front_of begins
returns-then-b-eq128 c = rw (c.if-b-eq128.true, eqb_swap 0x80 c.args.c, and_true)

pub returns-else-b-eq128 : goal.returns-else-b-eq128
unfolding space front_of begins
returns-else-b-eq128 c = simp (ne_eqb 0x80 c.args.b (omega arith), ne_eqb c.args.b 0x80 (omega arith))
