-- `schedule`: the first t words are those of the schedule.
use Rattle.std.proofs.Common.{◌≡◌, ◌-◌, ◌≤◌, length, take}
use Rattle.fips180.specs.Sha256.{schedule_of}
use Rattle.sha256.proofs.schedule.Given as goal

abbrev pub invariant-loop-t : goal.invariant-loop-t
invariant-loop-t l = (16 ≤ l.t) × (length l.w ≡ 64) × (take l.t l.w ≡ schedule_of l.fn.first (l.t - 16))
