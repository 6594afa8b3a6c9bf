-- `read_string` meets its contract: the bytes, and whether the kind takes them.
use Rattle.std.proofs.Common.{sym, ◌∙◌, ap}
use Rattle.fields.specs.ReadingLaws.{handed}
use Rattle.fields.specs.StringKind.{obeyed}
use Rattle.fields.specs.StringKindLaws.{obeying, disobeying, string_stops}
use Rattle.fields.proofs.part.read_string.Goals as goal

pub returns-in_err-string : goal.returns-in_err-string
returns-in_err-string c = rw (handed _ c.from_residual.ensures) (string_stops c.args.kind c.args.limit c.in_err-string.ensures)

pub returns-then-not-obeys : goal.returns-then-not-obeys
returns-then-not-obeys c =
    disobeying c.args.kind c.in_ok-string.ensures.0 (ap (obeyed c.args.kind) (sym c.part.ensures) ∙ sym c.obeys.ensures ∙ c.if-not-obeys.true)

pub returns : goal.returns
returns c =
    (obeying c.args.kind c.in_ok-string.ensures.0 (ap (obeyed c.args.kind) (sym c.part.ensures) ∙ sym c.obeys.ensures ∙ c.if-not-obeys.false), c.in_ok-string.ensures.1)
