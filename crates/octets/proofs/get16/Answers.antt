-- `get16`: what std reads in the bytes is their number.
use Rattle.std.proofs.Common.{◌∙◌, ap, take, drop, arith}
use Rattle.std.specs.Int.{w16, from_be_bytes}
use Rattle.std.proofs.lemmas.Nat.{be_bytes_2}
use Rattle.octets.specs.NumberLaws.{octets_drop, octets_take}
use Rattle.octets.specs.PartLaws.{part_length}
use Rattle.octets.proofs.NumberSteps.{read_back}
use Rattle.octets.proofs.get16.Goals as goal

pub returns : goal.returns
returns c =
    let s = c.args.s.now in
    let at = c.args.at in
    let part = take 2 (drop at s) in
    read_back 2 s at _ c.from_be_bytes.type_inv
    (be_bytes_2 part _ (part_length s at 2 c.requires) (octets_take 2 (drop at s) (octets_drop at s (λ i. omega (arith, c.type_inv.s i))))
    (c.from_be_bytes.ensures ∙ ap (from_be_bytes w16) c.bytes_at.ensures))
