-- `put_key` meets its contract: the digits stand behind the head.
use native.Mathlib.Omega.{arith}
use Rattle.definition.specs.Answer.{head}
use Rattle.definition.proofs.Laws.Text.Key.{length_hex}
use Rattle.definition.proofs.Laws.Steps.Answers.{length_head}
use Rattle.answers.specs.Code.{code_number}
use Rattle.answers.proofs.Parts.{part_to, ◌then◌}
use Rattle.answers.proofs.put_key.Goals as goal

pub put_hex-requires : goal.put_hex-requires
put_hex-requires c =
    omega (arith, c.put_head-n.ensures.next, length_head (head (code_number c.args.code) 0 c.args.number))

pub returns : goal.returns
returns c =
    (rw c.from.ensures at c.put_head-n.ensures) then part_to c.put_hex.ensures (length_hex c.args.key.now) (omega arith) (omega (arith, c.put_head-n.ensures.next, length_head (head (code_number c.args.code) 0 c.args.number)))
