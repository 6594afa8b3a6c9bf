-- `put16`: std's bytes of v are its digits.
use Rattle.std.proofs.Common.{◌∙◌, ap}
use Rattle.octets.specs.Bytes.{splice}
use Rattle.octets.specs.NumberLaws.{high_first}
use Rattle.octets.proofs.put16.Goals as goal

pub returns : goal.returns
returns c = c.put_bytes.ensures ∙ ap (splice c.args.s.now c.args.at) (c.to_be_bytes.ensures ∙ high_first 2 c.args.v)
