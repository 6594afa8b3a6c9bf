-- `measure`: the entries of the places passed, and where they end.
use mathlib.Core.Path.{◌≡◌}
use Rattle.octets.specs.Bytes.{at32}
use Rattle.std.specs.Iterator.Adapters.{zip_first, zip_second}
use Rattle.metrics.specs.ListingLaws.{Measured}
use Rattle.metrics.proofs.measure.Given as goal

abbrev pub invariant-loop-k : goal.invariant-loop-k
invariant-loop-k l =
    Measured l.register l.table.place (zip_first l.k-iterator).start l.entries l.end (zip_second l.k-iterator)
    × ((zip_first l.k-iterator).end ≡ at32 l.register 16)
