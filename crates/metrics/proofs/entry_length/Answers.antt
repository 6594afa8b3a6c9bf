-- `entry_length`: the four parts of an entry, or nothing.
use mathlib.Core.Path.{ap}
use lib.ListN.{length}
use Prim.Native.Nat.{◌+◌}
use Rattle.octets.specs.Bytes.{Bytes}
use Rattle.metrics.proofs.entry_length.Goals as goal

pub returns-then-not-first : goal.returns-then-not-first
returns-then-not-first c = rw (c.if-not-first.true)

pub returns : goal.returns
returns c =
    rw (c.if-not-first.false) (ap (λ (x : Bytes). 9 + length x) c.cause.ensures)
