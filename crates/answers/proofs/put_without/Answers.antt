-- `put_without` meets its contract: the cause stands behind the key.
use mathlib.Core.Path.{refl, ap, ◌∙◌}
use mathlib.Core.List.{append_assoc}
use native.Mathlib.Omega.{arith}
use lib.ListN.{length, length-append}
use Rattle.octets.specs.PutLaws.{put_as}
use Rattle.definition.specs.Key.{string, hex}
use Rattle.definition.proofs.Laws.Text.Key.{length_hex}
use Rattle.definition.specs.Answer.{ClearWithoutActive, head, head_bytes}
use Rattle.definition.proofs.Laws.Steps.Answers.{length_head}
use Rattle.model.specs.Meaning.{cause_part}
use Rattle.strings.specs.WritingLaws.{put_from}
use Rattle.answers.specs.AnswerLaws.{answer_as}
use Rattle.answers.proofs.Parts.{◌then◌}
use borrow.Author.Rules.{rules}
use Rattle.answers.proofs.put_without.Goals as goal

pub put_cause-requires : goal.put_cause-requires
put_cause-requires c =
    let h = head 4 0 0 in (
      omega (arith, c.put_key-n.ensures.next, length-append (head_bytes h) (hex c.args.key.now), length_head h, length_hex c.args.key.now, ap length c.new-writer.ensures.bytes),
      c.requires.1,
    )

pub returns : goal.returns
returns c =
    let cause = cause_part c.args.call.now c.args.cause in
    put_as (append_assoc (head_bytes (head 4 0 0)) (hex c.args.key.now) (string cause) ∙ answer_as (ClearWithoutActive c.args.key.now cause) refl refl)
    (c.put_key-n.ensures then put_from c.new-writer.ensures.bytes c.new-writer.ensures.place c.put_cause.ensures c.place.ensures (search rules))
