-- `blocks`: the state is the hash value after i blocks.
use Rattle.std.proofs.Common.{◌≡◌, ◌+◌, ◌/◌, length, sym, refl, ap, ◌∙◌, arith}
use Rattle.fips180.specs.Sha256.{initial, blocks_of}
use Rattle.fips180.specs.StepLaws.{blocks_more}
use Rattle.fips180.specs.PaddingLaws.{blocks_count}
use Rattle.sha256.proofs.blocks.Goals as goal

pub loop-i-init : goal.loop-i-init
unfolding initial blocks_of
loop-i-init c = refl

pub loop-i-preserved : goal.loop-i-preserved
loop-i-preserved c = blocks_more _ _ c.block-state.ensures c.loop-i.invariant

pub returns : goal.returns
returns c =
    let e : c.loop-i.i ≡ (length c.args.message.now + 72) / 64 = omega arith in
    c.loop-i.invariant ∙ ap (blocks_of _) (e ∙ sym (blocks_count _))
