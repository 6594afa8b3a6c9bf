-- What the answers of the code mean.
use Rattle.std.specs.Prelude.{ℕ, ◌+◌, ◌≤◌, ◌<◌, ◌≡◌, false, List, [], ◌++◌, length, take, drop, get_or, Option, Some, None}
use Rattle.std.specs.Bool.{then_some}
use Rattle.std.proofs.Math.Option as maybe
use Rattle.octets.specs.Bytes.{Bytes, same}
use Rattle.definition.specs.Cause.{names, one_of, other}
use Rattle.cause.specs.declared.Cause.{Cause}
use Rattle.cause.specs.declared.Cause.TheVariants.{Name, Other}

-- s stands at a place among the texts, or nowhere
abbrev pub named : List Bytes → Bytes → Option ℕ → Type 0
named ts s (Some k) = (k < length ts) × (get_or ts k [] ≡ s)
named ts s None = one_of ts s ≡ false

-- the place k, if s is the text t
abbrev pub place_of : Bytes → Bytes → ℕ → Option ℕ
place_of s t k = then_some (same t s) k

-- the stored form that the answer on s stands for
unfoldable pub cause_value : Bytes → Option Cause → maybe.Option Bytes
cause_value s (Some (Name k)) = maybe.some (get_or names k [])
cause_value s (Some (Other at len)) = maybe.some (other ++ take len (drop at s))
cause_value s None = maybe.none

-- the place is one of the 21; the part lies within s, behind `other:`
abbrev pub cause_fits : Bytes → Option Cause → Type 0
cause_fits s (Some (Name k)) = k < 21
cause_fits s (Some (Other at len)) = (6 ≤ at) × (at + len ≤ length s)
cause_fits s None = Unit
