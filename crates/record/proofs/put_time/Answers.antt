-- Byte 1 and the time's eight bytes.
use native.Mathlib.Omega.{arith}
use Rattle.octets.specs.Bytes.{digits}
use Rattle.octets.specs.NumberLaws.{length_digits}
use Rattle.octets.specs.SpliceLaws.{marked_splices}
use Rattle.record.proofs.put_time.Goals as goal

pub returns : goal.returns
returns c =
    marked_splices _ _ _ (digits 8 c.args.t) c.args.at 1 (omega (arith, c.requires, length_digits 8 c.args.t))
    c.put_byte.ensures c.put64.ensures
