-- Three parts, one behind the other.
use Rattle.octets.specs.Bytes.{zeros}
use Rattle.octets.specs.NumberLaws.{length_zeros}
use Rattle.model.specs.Meaning.{part}
use Rattle.build.proofs.Lent.{object_laid}
use borrow.Author.Rules.{rules}
use Rattle.build.proofs.about.single_into.Goals as goal

pub returns : goal.returns
returns c =
    object_laid c.args.p.now c.args.kind (part c.args.call.now c.args.a) (zeros 67) 0 (search rules) (length_zeros 67) c.marked_into.ensures c.put_zeros.ensures c.put16.ensures
