-- `flag`: by the state.
use native.Mathlib.Omega.{arith}
use Rattle.panel.specs.FlagLaws.{flag_none, flag_one}
use Rattle.panel.proofs.flag.Goals as goal

pub returns-then-state-gt-UPDATED : goal.returns-then-state-gt-UPDATED
returns-then-state-gt-UPDATED c = flag_none c.args.state c.args.severity (omega (arith, c.if-state-gt-UPDATED.true))

pub returns : goal.returns
returns c = flag_one c.args.state c.args.severity (omega (arith, c.if-state-gt-UPDATED.false)) c.requires
