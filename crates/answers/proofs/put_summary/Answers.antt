-- `put_summary` meets its contract: four numbers behind the head, one behind the other.
use mathlib.Core.Path.{refl}
use native.Mathlib.Omega.{arith}
use Rattle.octets.specs.NumberLaws.{length_digits}
use Rattle.octets.specs.PutLaws.{put_as}
use Rattle.definition.specs.Answer.{Summary, head}
use Rattle.definition.proofs.Laws.Steps.Answers.{length_head}
use Rattle.answers.specs.Meaning.{totals_of}
use Rattle.answers.specs.AnswerLaws.{answer_as}
use Rattle.answers.proofs.Parts.{part, ◌then◌}
use Rattle.answers.proofs.put_summary.Goals as goal

pub returns : goal.returns
returns c =
    put_as (answer_as (Summary (totals_of c.args.totals)) refl refl)
    (part c.put_head.ensures.bytes (length_head (head 11 0 c.args.totals.active)) (omega arith)
    then part c.put_byte.ensures refl (omega arith)
    then part c.put_byte-2.ensures refl (omega arith)
    then part c.put64.ensures (length_digits 8 c.args.totals.successes) (omega arith)
    then part c.put64-2.ensures (length_digits 8 c.args.totals.failures) (omega arith))
