-- What the ruler leaves is what it left of the bytes passed, joined by or, and what it leaves of the others.
use Rattle.std.proofs.Common.{◌≡◌, ◌&&◌, nat_eq}
use Rattle.std.specs.Iterator.Adapters.{zip_first, zip_second}
use Rattle.std.specs.Slice.Iter.{iter_rest}
use Rattle.octets.specs.Bytes.{blank}
use Rattle.record_check.specs.Ruler.{under}
use Rattle.record_check.proofs.ruler.is_clear.Given as goal

abbrev pub invariant-loop-x : goal.invariant-loop-x
invariant-loop-x l =
    blank (under l.room l.ruler) ≡ nat_eq l.left 0 && blank (under (iter_rest (zip_first l.x-iterator)) (iter_rest (zip_second l.x-iterator)))
