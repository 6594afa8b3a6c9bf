-- `read_bytes` meets its contract: too few are left, or the bytes.
use Rattle.fields.specs.BytesLaws.{short_taken, bytes_taken}
use Rattle.fields.proofs.part.read_bytes.Goals as goal

pub returns-then-left-n : goal.returns-then-left-n
returns-then-left-n c = short_taken c.if-left-n.true

pub returns : goal.returns
returns c = (bytes_taken c.if-left-n.false, c.if-left-n.false)
