-- Fewer than eight bytes, or what these eight decide.
use borrow.Author.Tests.{le-leb, lt-leb}
use Rattle.utf8.specs.Meaning.{starts_plain}
use Rattle.utf8.proofs.starts_plain.Goals as goal

pub returns-then-s-ge8 : goal.returns-then-s-ge8
unfolding starts_plain
returns-then-s-ge8 c = rw (le-leb _ _ c.if-s-ge8.true) c.is_ascii.ensures

pub returns-else-s-ge8 : goal.returns-else-s-ge8
unfolding starts_plain
returns-else-s-ge8 c = rw (lt-leb _ _ c.if-s-ge8.false)
