-- `starts`: `starts_with` compares byte by byte.
use Rattle.std.proofs.Common.{◌∙◌}
use Rattle.octets.specs.SameLaws.{begins_by_byte}
use Rattle.octets.proofs.starts.Goals as goal

pub returns : goal.returns
returns c = c.starts_with.ensures.value ∙ begins_by_byte c.args.b.now c.args.a.now
