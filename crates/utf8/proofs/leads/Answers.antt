-- At the end all are passed.
use Rattle.std.proofs.Common.{arith}
use Rattle.std.proofs.lemmas.Grind.{common_steps}
use Rattle.utf8.specs.Meaning.{leads_in}
use Rattle.utf8.proofs.leads.Goals as goal

pub returns : goal.returns
unfolding leads_in
returns c = grind (arith, common_steps)
