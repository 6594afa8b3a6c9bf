-- `is_due`: the time of the last update is compared.
use mathlib.Core.Path.{ap, ◌∙◌}
use Prim.Native.Nat.{ℕ}
use Rattle.octets.specs.Bytes.{Bytes}
use Rattle.definition.specs.Alarm.{before}
use Rattle.definition.specs.Record.{read_alarm}
use Rattle.expiry.proofs.is_due.Goals as goal

pub returns : goal.returns
returns c =
    c.is_before.ensures ∙ ap (λ (t : ℕ). before t c.args.cutoff) (c.updated_at.ensures ∙ ap (λ (q : Bytes). (read_alarm q).updated_at) c.payload.ensures)
