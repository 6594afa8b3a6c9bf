-- Three parts, one behind the other.
use Rattle.definition.specs.Slot.{option}
use Rattle.definition.specs.Record.{short}
use Rattle.definition.proofs.Laws.Record.Payloads.{is_place}
use Rattle.model.specs.Meaning.{part, opt_part}
use Rattle.build.proofs.Lent.{object_laid}
use borrow.Author.Rules.{rules}
use Rattle.build.proofs.about.store_into.Goals as goal

pub returns : goal.returns
returns c =
    let shard = opt_part c.args.call.now c.args.shard in
    object_laid c.args.p.now 4 (part c.args.call.now c.args.a) ((option short).put shard) 0 (search rules) (is_place.len shard) c.marked_into.ensures c.option_into.ensures c.put16.ensures
