-- `State::rounds`: a turn's pair is the constant and the word of its round.
use Rattle.std.proofs.Common.{◌≡◌, length, min, refl, ap, ap₂, ◌∙◌, length-append}
use Rattle.std.specs.Slice.Iter.{iter_rest}
use Rattle.std.specs.Iterator.Adapters.{zip_first, zip_second}
use Rattle.std.proofs.lemmas.Slice.Zip.{zip_turn, zip_end}
use Rattle.fips180.specs.Sha256.{constants, round_of, rounds_of}
use Rattle.fips180.specs.StepLaws.{rounds_more}
use Rattle.sha256.specs.HashOf.{hash_of}
use Rattle.sha256.proofs.State.rounds.Goals as goal

pub loop-k-init : goal.loop-k-init
unfolding rounds_of
loop-k-init c = refl

pub loop-k-preserved : goal.loop-k-preserved
unfolding constants
loop-k-preserved c =
    let l = c.loop-k in
    let w = c.args.schedule.now in
    let first : iter_rest (zip_first c.into_iter-k-iterator.result) ≡ constants = cc in
    let second : iter_rest (zip_second c.into_iter-k-iterator.result) ≡ w = cc in
    let z = zip_turn constants w l.yielded c.into_iter-k-iterator.result l.k-iterator c.next.new.self c.next.result first second l.yielded_by
    (c.in-Some.k, c.in-Some.w) c.in-Some.is c.next.ensures.steps in
    rw length-append
    (rounds_more w _ (length l.yielded) (c.round-state.ensures ∙ ap₂ (round_of (hash_of l.state)) (z.2 0) (z.3 0)) l.invariant)

pub returns : goal.returns
unfolding constants
returns c =
    let l = c.loop-k in
    let w = c.args.schedule.now in
    let first : iter_rest (zip_first c.into_iter-k-iterator.result) ≡ constants = cc in
    let second : iter_rest (zip_second c.into_iter-k-iterator.result) ≡ w = cc in
    let z = zip_end constants w l.yielded c.into_iter-k-iterator.result l.k-iterator c.next.new.self c.next.result first second l.yielded_by
    c.in-None.is c.next.ensures.steps in
    let e : length l.yielded ≡ 64 = z ∙ ap (min 64) c.told-schedule in
    l.invariant ∙ ap (rounds_of w _) e
