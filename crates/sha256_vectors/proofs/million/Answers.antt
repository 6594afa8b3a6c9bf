-- `million` is safe. The length of the array is a law: it is not counted out.
use Rattle.std.proofs.Common.{ℕ, sym}
use Rattle.std.proofs.lemmas.List.{length-replicate}
use Rattle.sha256_vectors.proofs.million.Goals as goal

pub slice_bounds-show-end : goal.slice_bounds-show-end
slice_bounds-show-end g c = sym (length-replicate {0} {A = ℕ} 1000000 97)
