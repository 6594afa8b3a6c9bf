-- `put_alarm` meets its contract: the record stands behind the head.
use native.Mathlib.Omega.{arith}
use Rattle.definition.specs.Answer.{head}
use Rattle.definition.proofs.Laws.Steps.Answers.{length_head}
use Rattle.answers.proofs.Parts.{◌then◌}
use Rattle.answers.proofs.put_alarm.Goals as goal

pub put_record-requires : goal.put_record-requires
put_record-requires c =
    omega (arith, c.put_head-n.ensures.next, length_head (head c.args.code 1 0))

pub returns : goal.returns
returns c = c.put_head-n.ensures then c.put_record.ensures
