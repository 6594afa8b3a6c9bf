-- Each chain's own test.
use mathlib.Core.Path.{◌∙◌}
use Rattle.register_check.proofs.WalkLaws.{of_chain, blank_payload}
use Rattle.register.specs.declared.Chain.TheVariants.{Active, History, Audit, Free}
use Rattle.register_check.proofs.payload_ok.Goals as goal

pub returns-in-Active : goal.returns-in-Active
returns-in-Active c = of_chain Active _ c.in-Active.is c.alarm_ok.ensures

pub returns-in-History : goal.returns-in-History
returns-in-History c = of_chain History _ c.in-History.is c.alarm_ok-in-History.ensures

pub returns-in-Audit : goal.returns-in-Audit
returns-in-Audit c = of_chain Audit _ c.in-Audit.is c.event_ok.ensures

pub returns-in-Free : goal.returns-in-Free
returns-in-Free c = of_chain Free _ c.in-Free.is (c.is_blank.ensures ∙ blank_payload _ c.requires)
