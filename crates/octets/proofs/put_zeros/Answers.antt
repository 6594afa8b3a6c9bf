-- `put_zeros`: the part that was lent came back with zeros.
use Rattle.octets.specs.Bytes.{zeros}
use Rattle.octets.specs.NumberLaws.{length_zeros}
use Rattle.octets.specs.SpliceLaws.{back_made}
use Rattle.octets.proofs.put_zeros.Goals as goal

pub returns : goal.returns
unfolding zeros
returns c = back_made c.args.s.now c.args.at c.args.n _ zeros length_zeros c.requires (c.fill.ensures.after (λ y e. e))
