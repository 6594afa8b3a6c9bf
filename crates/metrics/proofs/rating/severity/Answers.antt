-- `severity`: the field of the payload.
use mathlib.Core.Path.{◌∙◌, ap}
use Rattle.octets.specs.Bytes.{Bytes}
use Rattle.definition.specs.Record.{read_alarm}
use Rattle.metrics.proofs.rating.severity.Goals as goal

pub returns : goal.returns
returns c = c.severity.ensures ∙ ap (λ (p : Bytes). (read_alarm p).severity) c.payload.ensures
