-- `put_record` meets its contract: the payload stands behind the next index.
use native.Mathlib.Omega.{arith}
use Rattle.octets.specs.NumberLaws.{length_be32}
use Rattle.answers.proofs.Parts.{part, part_to, ◌then◌}
use borrow.Author.Rules.{rules}
use Rattle.answers.proofs.put_record.Goals as goal

pub returns : goal.returns
returns c =
    part c.put32.ensures (length_be32 0) (omega arith) then part_to {w = 1532} c.put_bytes.ensures (search rules) (omega arith) (omega arith)
