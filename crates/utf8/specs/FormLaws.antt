-- What callers ask of the answer: whether the string is UTF-8, and whether it has at most some number of code points.
use Rattle.std.specs.Prelude.{◌≡◌, refl, Bool, false, ℕ, leb, Option, Some, None, is_some, MatchOption}
use Rattle.std.proofs.Common.{ap, ◌∙◌}
use Rattle.octets.specs.Bytes.{Bytes}
use Rattle.definition.specs.Utf8.{code_points, is_run, at_most, utf8}
use Rattle.utf8.specs.Meaning.{counted}

pub some_is_run : (o : Option ℕ) → is_some o ≡ is_run (counted o)
some_is_run None = refl
some_is_run (Some n) = refl

pub yes_or_no : (s : Bytes) (o : Option ℕ) {r : Bool} → r ≡ is_some o → counted o ≡ code_points s → r ≡ utf8 s
unfolding utf8
yes_or_no s o asked checked = asked ∙ some_is_run o ∙ ap is_run checked

pub some_at_most : (n : ℕ) (o : Option ℕ) {r : Bool} → MatchOption o (r ≡ false) (λ k. r ≡ leb k n) → r ≡ at_most n (counted o)
some_at_most n None asked = asked
some_at_most n (Some k) asked = asked
