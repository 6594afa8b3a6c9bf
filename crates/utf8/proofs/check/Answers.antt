-- ASCII is UTF-8, a code point a byte, and all else is tested as a run.
use mathlib.Core.Path.{◌∙◌, sym}
use Rattle.octets.specs.BoolLaws.{true_holds}
use Rattle.utf8.specs.PlainLaws.{plain_rows}
use Rattle.utf8.proofs.check.Goals as goal

pub returns-then-is_ascii : goal.returns-then-is_ascii
returns-then-is_ascii c = sym (plain_rows _ (true_holds _ (sym c.is_ascii.ensures ∙ c.if-is_ascii.true)))
