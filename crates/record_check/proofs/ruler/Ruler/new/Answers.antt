-- Two rows of the highest bit, and two of ones, as one slice.
use Rattle.std.proofs.Common.{◌∙◌, ap, take}
use Rattle.record_check.specs.RulerLaws.{ruler_rows}
use Rattle.record_check.proofs.ruler.Ruler.new.Goals as goal

pub invariant_of-result : goal.invariant_of-result
unfolding Rattle.record_check.specs.Ruler.highs Rattle.record_check.specs.Ruler.ones
invariant_of-result c =
    let first = rw c.unwrap.ensures at c.first_chunk.ensures.cases in
    record { is_ruler = first.same ∙ ap (take 1024) c.as_flattened.ensures.value ∙ ruler_rows }
