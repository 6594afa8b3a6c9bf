-- `put_bytes`: the part that was lent came back with the bytes of src.
use native.Mathlib.Omega.{arith}
use Rattle.octets.specs.SpliceLaws.{back}
use Rattle.octets.proofs.put_bytes.Goals as goal

pub returns : goal.returns
returns c = back c.args.s.now c.args.at _ _ _ c.copy.ensures (omega arith)
