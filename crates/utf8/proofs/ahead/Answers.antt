-- Eight bytes of ASCII, or the first character.
use mathlib.Core.Path.{◌∙◌, sym}
use Rattle.utf8.specs.Meaning.{ahead}
use Rattle.utf8.proofs.ahead.Goals as goal

pub returns-then-starts_plain : goal.returns-then-starts_plain
unfolding ahead
returns-then-starts_plain c = rw (sym c.starts_plain.ensures ∙ c.if-starts_plain.true)

pub returns : goal.returns
unfolding ahead
returns c = rw (sym c.starts_plain.ensures ∙ c.if-starts_plain.false) c.character.ensures
