-- Three parts, one behind the other.
use mathlib.Core.Path.{ap}
use mathlib.Core.List.{◌∷◌}
use Prim.Native.Nat.{suc}
use Rattle.definition.specs.Record.{short}
use Rattle.definition.proofs.Laws.Record.ChangedSlot.{length_string}
use Rattle.model.specs.Meaning.{part}
use Rattle.build.proofs.Lent.{object_laid}
use borrow.Author.Rules.{rules}
use Rattle.build.proofs.about.pair_into.Goals as goal

pub returns : goal.returns
returns c =
    let b = part c.args.call.now c.args.b in
    object_laid c.args.p.now c.args.kind (part c.args.call.now c.args.a) (0 ∷ short.put b) c.args.queue (search rules) (ap suc (length_string 64 b)) c.marked_into.ensures c.marked_into-2.ensures c.put16.ensures
