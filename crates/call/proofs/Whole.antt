-- The laws by which a call is read whole.
use Rattle.std.proofs.lemmas.Grind.{common_steps}
use Rattle.call.specs.WholeLaws.{parse_empty, parse_is, whole_left, whole_end}

pub ruleset whole = (common_steps, parse_empty, parse_is, whole_left, whole_end)
