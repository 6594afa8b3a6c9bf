-- What the contracts say: the answer's number of code points, strings of ASCII, a row behind its first byte, how far a run goes on at once,
-- and how many bytes are no tails.
use Rattle.std.specs.Prelude.{ℕ, zero, suc, ◌-◌, [], ◌∷◌, Bool, true, cond, ◌&&◌, not, ltb, leb, length, take, drop, replicate, count_by}
use Rattle.std.specs.Prelude.{Option, Some, None}
use Rattle.std.proofs.Math.Option as maybe
use Rattle.octets.specs.Bytes.{Bytes}
use Rattle.definition.specs.Utf8.{Range, Row, inside, tail, fits, character}

-- how many code points each answer tells: those of the definition's `code_points`
abbrev pub counted : Option ℕ → maybe.Option ℕ
counted (Some n) = maybe.some n
counted None = maybe.none

-- all bytes are below 128: ASCII
unfoldable pub plain : Bytes → Bool
plain [] = true
plain (b ∷ s) = ltb b 128 && plain s

-- s begins with eight bytes of ASCII
unfoldable pub starts_plain : Bytes → Bool
starts_plain s = leb 8 (length s) && plain (take 8 s)

-- all bytes are in the range
unfoldable pub all_inside : Range → Bytes → Bool
all_inside r [] = true
all_inside r (b ∷ s) = inside r b && all_inside r s

-- a row of n bytes behind its first one
abbrev pub second_then_tails : ℕ → Range → Row
second_then_tails n r = r ∷ replicate (n - 2) tail

-- n, if such bytes stand behind the first of s
unfoldable pub row_width : ℕ → Range → Bytes → Option ℕ
row_width n r s = cond (fits (second_then_tails n r) (drop 1 s)) (Some n) None

-- how many bytes a character takes, of which the definition says 0 for none
abbrev pub width_of : ℕ → Option ℕ
width_of zero = None
width_of (suc n) = Some (suc n)

-- how many bytes at the front of s are whole characters: eight of ASCII, else those of the first character, if it begins with one
unfoldable pub ahead : Bytes → Option ℕ
ahead s = cond (starts_plain s) (Some 8) (width_of (character s))

-- how many bytes of s are no tails
unfoldable pub leads_in : Bytes → ℕ
leads_in s = count_by (λ b. not (inside tail b)) s
