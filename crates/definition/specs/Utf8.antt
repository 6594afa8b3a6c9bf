-- "All strings but details are UTF-8 by RFC 3629": section 4 of that document, each row below the line of the syntax that has it.
use Rattle.std.specs.Prelude.{ℕ, zero, suc, pred, List, [], ◌∷◌, Bool, true, false, cond, ◌&&◌, leb, eqb, length}
use Rattle.std.proofs.Math.Option.{Option, none, some}
use Rattle.octets.specs.Bytes.{Bytes}

-- the bytes from lo to hi
pub record Range : Type 0 where
  pub lo : ℕ
  pub hi : ℕ

infixl 20 ◌–◌
abbrev pub ◌–◌ : ℕ → ℕ → Range
◌–◌ l h = record { lo = l; hi = h }

abbrev pub inside : Range → ℕ → Bool
inside r b = leb r.lo b && leb b r.hi

-- a row of the syntax: the range of each byte
abbrev pub Row : Type 0
Row = List Range

-- UTF8-tail   = %x80-BF
abbrev pub tail : Range
tail = 0x80 – 0xBF

-- UTF8-char   = UTF8-1 / UTF8-2 / UTF8-3 / UTF8-4
abbrev pub rows : List Row
rows =
    -- UTF8-1      = %x00-7F
    ((0x00 – 0x7F) ∷ [])
    -- UTF8-2      = %xC2-DF UTF8-tail
    ∷ ((0xC2 – 0xDF) ∷ tail ∷ [])
    -- UTF8-3      = %xE0 %xA0-BF UTF8-tail / %xE1-EC 2( UTF8-tail ) /
    --               %xED %x80-9F UTF8-tail / %xEE-EF 2( UTF8-tail )
    ∷ ((0xE0 – 0xE0) ∷ (0xA0 – 0xBF) ∷ tail ∷ [])
    ∷ ((0xE1 – 0xEC) ∷ tail ∷ tail ∷ [])
    ∷ ((0xED – 0xED) ∷ (0x80 – 0x9F) ∷ tail ∷ [])
    ∷ ((0xEE – 0xEF) ∷ tail ∷ tail ∷ [])
    -- UTF8-4      = %xF0 %x90-BF 2( UTF8-tail ) / %xF1-F3 3( UTF8-tail ) /
    --               %xF4 %x80-8F 2( UTF8-tail )
    ∷ ((0xF0 – 0xF0) ∷ (0x90 – 0xBF) ∷ tail ∷ tail ∷ [])
    ∷ ((0xF1 – 0xF3) ∷ tail ∷ tail ∷ tail ∷ [])
    ∷ ((0xF4 – 0xF4) ∷ (0x80 – 0x8F) ∷ tail ∷ tail ∷ [])
    ∷ []

-- s begins with a byte of each range, one after the other
unfoldable pub fits : Row → Bytes → Bool
fits [] s = true
fits (r ∷ rs) [] = false
fits (r ∷ rs) (b ∷ s) = inside r b && fits rs s

-- how many bytes the first of the rows has that s begins with, 0 where it begins with none
unfoldable pub width_in : List Row → Bytes → ℕ
width_in [] s = 0
width_in (r ∷ rs) s = cond (fits r s) (length r) (width_in rs s)

-- how many bytes the character takes that s begins with, 0 where it begins with none
unfoldable pub character : Bytes → ℕ
character s = width_in rows s

abbrev pub one_more : Option ℕ → Option ℕ
one_more none = none
one_more (some n) = some (suc n)

-- UTF8-octets = *( UTF8-char ): how many rows s is a run of behind its first n bytes, none where it is no run. These are of a row that is counted
-- already, and are all there, as in every row that fits
unfoldable pub rows_from : ℕ → Bytes → Option ℕ
rows_from n [] = some 0
rows_from (suc n) (b ∷ s) = rows_from n s
rows_from zero (b ∷ s) = cond (eqb (character (b ∷ s)) 0) none (one_more (rows_from (pred (character (b ∷ s))) s))

-- M-104: "answers the number of code points as well as yes or no": how many rows s is a run of, none where it is no run
abbrev pub code_points : Bytes → Option ℕ
code_points s = rows_from 0 s

abbrev pub is_run : Option ℕ → Bool
is_run none = false
is_run (some n) = true

-- M-101: "A string is accepted exactly if it is a run of those rows"
unfoldable pub utf8 : Bytes → Bool
utf8 s = is_run (code_points s)

-- a run of at most n rows
abbrev pub at_most : ℕ → Option ℕ → Bool
at_most n none = false
at_most n (some k) = leb k n
