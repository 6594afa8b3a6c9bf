-- What the fields that are hashed keep to.
use Rattle.std.specs.Prelude.{◌≡◌, List, ℕ, ◌≤◌, length}
use Rattle.definition.specs.Limits.{short_limit}
use Rattle.model.specs.Meaning.{cause_within, PlacesWithin}
use Rattle.model.specs.declared.CauseSpan.{CauseSpan}
use Rattle.model.specs.declared.Places.{Places}

-- a call of 256 letters, strings of n, and a cause and places within it
abbrev pub Fit : List ℕ → ℕ → CauseSpan → Places → Type 0
Fit call n cause places = (length call ≡ 256) × (n ≤ short_limit) × cause_within call cause × PlacesWithin call places
