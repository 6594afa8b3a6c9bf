-- Both stretches are compared: what history's test comes to.
use mathlib.Core.Path.{◌∙◌, ap₂}
use mathlib.Core.Bool.{◌&&◌}
use Rattle.definition.proofs.Laws.Record.Identity.{same_identity_lem}
use Rattle.record.proofs.same_alarm.Goals as goal

pub returns : goal.returns
returns c =
    ap₂ ◌&&◌ c.equal.ensures c.equal-2.ensures ∙ same_identity_lem c.args.p.now c.args.q.now c.requires.0 c.requires.1
