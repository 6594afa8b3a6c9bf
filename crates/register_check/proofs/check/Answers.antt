-- A wrong header shows that the bytes are not sound; the rest is what the chains show.
use Rattle.register_check.proofs.JudgeLaws.{wrong_header}
use Rattle.register_check.proofs.check.Goals as goal

pub returns-in_err-capacity : goal.returns-in_err-capacity
returns-in_err-capacity c = rw c.from_residual.ensures (wrong_header _ c.in_err-capacity.ensures)

pub chains-requires : goal.chains-requires
chains-requires c = c.in_ok-capacity.ensures
