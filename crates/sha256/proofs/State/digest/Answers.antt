-- `State::digest`: the first 4 i bytes are those of the first i words.
use Rattle.std.proofs.Common.{◌≡◌, sym, refl, ◌∙◌, arith, take_all}
use Rattle.octets.specs.Bytes.{digits}
use Rattle.fips180.specs.Sha256.{digest_of}
use Rattle.sha256.proofs.WordBytes.{word_bytes, put_more}
use Rattle.sha256.proofs.State.digest.Goals as goal

pub loop-i-init : goal.loop-i-init
unfolding word_bytes
loop-i-init c = (refl, refl)

pub loop-i-preserved : goal.loop-i-preserved
loop-i-preserved c =
    let m = put_more _ _ _ (omega arith) (omega arith) c.put32.ensures c.loop-i.invariant.1 in
    (m.0 ∙ c.loop-i.invariant.0, m.1)

pub returns : goal.returns
unfolding digits word_bytes digest_of
returns c =
    let e : c.loop-i.i ≡ 8 = omega arith in
    sym (take_all 32 _ (omega arith)) ∙ (rw e at c.loop-i.invariant.1)
