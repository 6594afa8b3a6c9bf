-- `padded_word`: the four bytes are those of the word.
use Rattle.std.proofs.Common.{arith}
use Rattle.octets.specs.Bytes.{Bytes}
use Rattle.fips180.specs.Sha256.{padded}
use Rattle.fips180.specs.PaddingLaws.{length_padded, at32_bytes}
use Rattle.sha256.proofs.padded_word.Goals as goal

pub returns : goal.returns
returns c =
    let m : Bytes = c.args.message.now in
    cc (at32_bytes (padded m) c.args.at (omega (arith, length_padded m)))
