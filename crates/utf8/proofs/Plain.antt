-- ASCII, seen by a loop that joins bytes by or.
use mathlib.Core.Path.{◌≡◌, refl, sym, ap, ◌∙◌}
use mathlib.Core.Bool.{Bool, ◌&&◌}
use mathlib.Core.List.{[], ◌∷◌, ◌++◌}
use Prim.Native.Nat.{ℕ, ◌+◌, ◌<◌}
use native.Mathlib.Numerals.{add-one}
use lib.Dec.{ltb}
use lib.Bits.{bit_or}
use lib.ListN.{length, take, get_or}
use lib.Seq.{take-suc}
use Rattle.octets.specs.Bytes.{Bytes}
use Rattle.octets.specs.BoolLaws.{and_assoc, and_true}
use Rattle.octets.specs.OrLaws.{or_below}
use Rattle.utf8.specs.Meaning.{plain}

plain_append : (s t : Bytes) → plain (s ++ t) ≡ plain s && plain t
unfolding plain
plain_append [] t = refl
plain_append (b ∷ s) t = rw (plain_append s t) (sym (and_assoc (ltb b 128) (plain s) (plain t)))

-- one more byte joined by or
pub plain_step : (s : Bytes) (i x : ℕ) → i < length s → ltb x 128 ≡ plain (take i s) → ltb (bit_or x (get_or s i 0)) 128 ≡ plain (take (i + 1) s)
unfolding plain
plain_step s i x h e =
    or_below 7 x (get_or s i 0)
    ∙ rw (e, add-one, take-suc s i 0, plain_append) (ap (λ (t : Bool). plain (take i s) && t) (sym (and_true (ltb (get_or s i 0) 128))))
