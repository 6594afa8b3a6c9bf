-- `obeys` meets its contract: UTF-8, or any bytes.
use Rattle.utf8.specs.FormLaws.{yes_or_no}
use Rattle.fields.proofs.part.obeys.Goals as goal

pub returns-in-Text : goal.returns-in-Text
returns-in-Text c = rw c.in-Text.is (yes_or_no _ _ c.is_some.ensures c.check.ensures)
