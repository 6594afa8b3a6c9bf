-- `put_byte`: a store is a splice of one byte.
use Rattle.octets.specs.SpliceLaws.{set_splice}
use Rattle.octets.proofs.put_byte.Goals as goal

pub returns : goal.returns
returns c = set_splice c.args.s.now c.args.at c.args.v c.requires
