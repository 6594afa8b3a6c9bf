-- A name is stored as it is.
use mathlib.Core.Path.{sym, ◌∙◌}
use Rattle.definition.proofs.Laws.Text.Cause.{stored_name}
use Rattle.cause.proofs.is_stored.Goals as goal

pub returns-then-is_one : goal.returns-then-is_one
returns-then-is_one c = c.if-is_one.true ∙ sym (stored_name _ (sym c.is_one.ensures ∙ c.if-is_one.true))
