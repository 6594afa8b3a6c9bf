-- `put_queue` meets its contract: the digits that are written are the last ones of five.
use mathlib.Core.Path.{ap, ◌∙◌}
use native.Mathlib.Omega.{arith}
use lib.ListN.{drop}
use Rattle.octets.specs.PartLaws.{part_rest}
use Rattle.definition.specs.Key.{string, decimal}
use Rattle.definition.proofs.Laws.Text.Key.{length_string, length_decimal, five_decimal, five_digits}
use Rattle.strings.specs.WritingLaws.{wrote_as}
use Rattle.key.proofs.put_queue.Goals as goal

pub put_string-requires : goal.put_string-requires
put_string-requires c =
    let l = length_string (decimal c.args.q) in
    let d = length_decimal c.args.q in
    (omega (arith, c.unwritten-a.ensures, c.requires.width, c.requires.fits), omega (arith, c.unwritten-a.ensures))

pub returns : goal.returns
returns c =
    wrote_as (ap string (part_rest (five_digits c.args.q) c.unwritten-a.result ∙ ap (λ k. drop k (five_digits c.args.q)) c.unwritten-a.ensures ∙ five_decimal c.args.q)) c.put_string.ensures
