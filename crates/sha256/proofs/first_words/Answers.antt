-- `first_words`: the first i words are those of the block.
use Rattle.std.proofs.Common.{◌≡◌, refl, sym, ◌∙◌, arith, length-set, take_all}
use Rattle.fips180.specs.Sha256.{words_of}
use Rattle.fips180.specs.StepLaws.{words_more}
use Rattle.sha256.proofs.first_words.Goals as goal

pub loop-i-init : goal.loop-i-init
unfolding words_of
loop-i-init c = (refl, refl)

pub loop-i-preserved : goal.loop-i-preserved
loop-i-preserved c = (
  rw length-set c.loop-i.invariant.0,
  words_more _ _ _ _ (omega arith) c.padded_word.ensures c.loop-i.invariant.1,
)

pub returns : goal.returns
returns c =
    let e : c.loop-i.i ≡ 16 = omega arith in
    sym (take_all 16 _ (omega arith)) ∙ (rw e at c.loop-i.invariant.1)
