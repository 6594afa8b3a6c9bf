-- What the contracts of the entry points tell a caller is what the theorems speak of (`whole_lists`, `balance`, `reach`, `lamps`; specs/Theorem.antt):
-- `told` is the contract as the checker read it from the code, so that a weaker one is refused here.
use contract.Lifetimes.{Lfts}
use borrow.Fn.World.{ArgsD, ResD}
use borrow.Fn.Kinds.{ended_of}
use denote.Triple.Clauses.{AtExit}
use Rattle.definition.specs.Claim.{OpenReturns, StepReturns}
use Rattle.definition.specs.Panel.{look, write, PanelReturns}
use Rattle.station_c.specs.contracts.alarm_open as Open
use Rattle.station_c.proofs.alarm_open.Kinds as OpenKinds
use Rattle.station_c.proofs.alarm_open.Reads as OpenReads
use Rattle.station_c.specs.contracts.alarm_step as Step
use Rattle.station_c.proofs.alarm_step.Kinds as StepKinds
use Rattle.station_c.proofs.alarm_step.Reads as StepReads
use Rattle.station_c.specs.contracts.alarm_panel_look as Look
use Rattle.station_c.proofs.alarm_panel_look.Kinds as LookKinds
use Rattle.station_c.proofs.alarm_panel_look.Reads as LookReads
use Rattle.station_c.specs.contracts.alarm_panel_write as Write
use Rattle.station_c.proofs.alarm_panel_write.Kinds as WriteKinds
use Rattle.station_c.proofs.alarm_panel_write.Reads as WriteReads

pub open_promises :
    (κs : Lfts 2) (a : ArgsD Open.signature κs) (r : ResD Open.signature κs) (e : AtExit (ended_of 2 OpenKinds.ps OpenKinds.r) κs) →
    OpenReads.Learnt κs a r e → OpenReturns a.1.0 a.1.1.0 a.1.1.1.0 a.0.now r e.1.1.1.1.0.now e.0.now
open_promises κs a r e told = told

pub step_promises :
    (κs : Lfts 4) (a : ArgsD Step.signature κs) (r : ResD Step.signature κs) (e : AtExit (ended_of 4 StepKinds.ps StepKinds.r) κs) →
    StepReads.Learnt κs a r e → StepReturns a.0.now a.1.0.now a.1.1.0.now r e.1.1.1.0.now e.1.1.0.now e.0.now
step_promises κs a r e told = told

pub look_promises :
    (κs : Lfts 3) (a : ArgsD Look.signature κs) (r : ResD Look.signature κs) (e : AtExit (ended_of 3 LookKinds.ps LookKinds.r) κs) →
    LookReads.Learnt κs a r e → PanelReturns a.0.now a.1.0.now look r e.1.1.0.now e.1.0.now
look_promises κs a r e told = told

pub write_promises :
    (κs : Lfts 3) (a : ArgsD Write.signature κs) (r : ResD Write.signature κs) (e : AtExit (ended_of 3 WriteKinds.ps WriteKinds.r) κs) →
    WriteReads.Learnt κs a r e → PanelReturns a.0.now a.1.0.now (write a.1.1.0 a.1.1.1.0) r e.1.1.1.1.0.now e.1.0.now
write_promises κs a r e told = told
