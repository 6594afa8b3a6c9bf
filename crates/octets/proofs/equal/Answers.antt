-- `equal`: `==` compares byte by byte.
use Rattle.std.proofs.Common.{◌∙◌}
use Rattle.octets.specs.SameLaws.{same_by_byte}
use Rattle.octets.proofs.equal.Goals as goal

pub returns : goal.returns
returns c = c.eq.ensures ∙ same_by_byte c.args.a.now c.args.b.now
