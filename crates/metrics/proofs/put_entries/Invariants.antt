-- `put_entries`: the entries of the rows and of the places passed stand in the answer.
use mathlib.Core.Path.{◌≡◌}
use Rattle.octets.specs.Bytes.{at32}
use Rattle.std.specs.Iterator.Adapters.{zip_first, zip_second}
use Rattle.metrics.specs.ListingLaws.{Written}
use Rattle.metrics.proofs.put_entries.Given as goal

abbrev pub invariant-loop-k : goal.invariant-loop-k
invariant-loop-k l =
    Written l.register l.initial.answer l.answer l.table.place (zip_first l.k-iterator).start l.initial.end l.end (zip_second l.k-iterator)
    × ((zip_first l.k-iterator).end ≡ at32 l.register 16)
