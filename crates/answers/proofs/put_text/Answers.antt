-- `put_text` meets its contract: the string stands behind the head.
use mathlib.Core.Path.{ap}
use native.Mathlib.Omega.{arith}
use lib.ListN.{length}
use Rattle.definition.specs.Answer.{head}
use Rattle.definition.proofs.Laws.Steps.Answers.{length_head}
use Rattle.strings.specs.WritingLaws.{put_from}
use Rattle.answers.proofs.Parts.{◌then◌}
use borrow.Author.Rules.{rules}
use Rattle.answers.proofs.put_text.Goals as goal

pub put_string-requires : goal.put_string-requires
put_string-requires c =
    (omega (arith, c.put_head-n.ensures.next, length_head (head c.args.code 0 0), ap length c.new-writer.ensures.bytes), c.requires.1)

pub returns : goal.returns
returns c =
    c.put_head-n.ensures then put_from c.new-writer.ensures.bytes c.new-writer.ensures.place c.put_string.ensures c.place.ensures (search rules)
