-- `length_bytes`: what wraps has no part in eight bytes.
use Rattle.std.proofs.Common.{◌≡◌, ◌*◌, ◌%◌, ◌^◌, ap, ◌∙◌, arith}
use Rattle.octets.specs.Bytes.{be64}
use Rattle.octets.specs.NumberLaws.{high_first}
use Rattle.fips180.specs.PaddingLaws.{length_bits}
use Rattle.sha256.proofs.length_bytes.Goals as goal

pub returns : goal.returns
returns c =
    let e : c.args.n * 8 % 2 ^ 64 ≡ c.args.n % 2 ^ 61 * 8 = omega arith in
    c.to_be_bytes.ensures ∙ high_first 8 _ ∙ ap be64 e ∙ length_bits c.args.n
