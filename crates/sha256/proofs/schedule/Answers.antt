-- `schedule`: the first t words are those of the schedule.
use Rattle.std.proofs.Common.{◌≡◌, sym, ◌∙◌, arith, length-set, length-append, take_all, take_at}
use Rattle.fips180.specs.Sha256.{next_word, schedule_of}
use Rattle.fips180.specs.StepLaws.{schedule_more}
use Rattle.sha256.proofs.schedule.Goals as goal

pub loop-t-init : goal.loop-t-init
unfolding schedule_of
loop-t-init c = (
  omega arith,
  rw (length-append, c.copy_from_slice.ensures.len),
  take_at c.copy_from_slice.new.self _ 16 c.copy_from_slice.ensures.len ∙ c.copy_from_slice.ensures.after,
)

pub loop-t-preserved : goal.loop-t-preserved
unfolding next_word
loop-t-preserved c = (
  omega arith,
  rw length-set c.loop-t.invariant.1,
  schedule_more _ _ _ (omega arith) (omega arith) c.next_word.ensures c.loop-t.invariant.2,
)

pub returns : goal.returns
returns c =
    let e : c.loop-t.t ≡ 64 = omega arith in
    sym (take_all 64 _ (omega arith)) ∙ (rw e at c.loop-t.invariant.2)
