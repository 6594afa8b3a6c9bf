-- "Whitespace is Unicode White_Space", in UTF-8; and a string without it at both ends.
use Rattle.std.specs.Prelude.{ℕ, zero, suc, pred, ◌+◌, ◌/◌, ◌%◌, List, [], ◌∷◌, map, Bool, false, cond, ◌||◌, not, ltb, eqb, length}
use Rattle.octets.specs.Bytes.{Bytes, begins}

-- U+0009 to 000D, 0020, 0085, 00A0, 1680, 2000 to 200A, 2028, 2029, 202F, 205F, 3000
abbrev pub white : List ℕ
white =
    0x0009 ∷ 0x000A ∷ 0x000B ∷ 0x000C ∷ 0x000D ∷ 0x0020 ∷ 0x0085 ∷ 0x00A0 ∷ 0x1680
    ∷ 0x2000 ∷ 0x2001 ∷ 0x2002 ∷ 0x2003 ∷ 0x2004 ∷ 0x2005 ∷ 0x2006 ∷ 0x2007 ∷ 0x2008 ∷ 0x2009 ∷ 0x200A
    ∷ 0x2028 ∷ 0x2029 ∷ 0x202F ∷ 0x205F ∷ 0x3000 ∷ []

-- UTF-8 of a code point below 65,536 (RFC 3629, section 3)
abbrev pub encoded : ℕ → Bytes
encoded c =
    cond (ltb c 0x80) (c ∷ [])
    (cond (ltb c 0x800) ((0xC0 + c / 64) ∷ (0x80 + c % 64) ∷ [])
    ((0xE0 + c / 4096) ∷ (0x80 + c / 64 % 64) ∷ (0x80 + c % 64) ∷ []))

-- the length of the first of the texts that s begins with, 0 where it begins with none
unfoldable pub front_of : List Bytes → Bytes → ℕ
front_of [] s = 0
front_of (w ∷ ws) s = cond (begins w s) (length w) (front_of ws s)

-- how many bytes the white space character takes that s begins with, 0 where it begins with none
unfoldable pub space : Bytes → ℕ
space s = front_of (map encoded white) s

-- s without the white space at its start; its first n bytes are of a white space character
unfoldable pub start_from : ℕ → Bytes → Bytes
start_from n [] = []
start_from (suc n) (b ∷ s) = start_from n s
start_from zero (b ∷ s) = cond (eqb (space (b ∷ s)) 0) (b ∷ s) (start_from (pred (space (b ∷ s))) s)

-- a byte of white space stays only where a byte that stays follows
abbrev pub keep : ℕ → Bytes → Bytes
keep b [] = []
keep b (x ∷ s) = b ∷ x ∷ s

abbrev pub stay : ℕ → ℕ → Bytes → Bytes
stay zero b s = b ∷ s
stay (suc n) b s = keep b s

-- s without the white space at its end; its first n bytes are of a white space character
unfoldable pub end_from : ℕ → Bytes → Bytes
end_from n [] = []
end_from (suc n) (b ∷ s) = keep b (end_from n s)
end_from zero (b ∷ s) = stay (space (b ∷ s)) b (end_from (pred (space (b ∷ s))) s)

-- "trimmed at both ends"
unfoldable pub trim : Bytes → Bytes
trim s = end_from 0 (start_from 0 s)

-- somewhere in s white space begins
unfoldable pub has_space : Bytes → Bool
has_space [] = false
has_space (b ∷ s) = not (eqb (space (b ∷ s)) 0) || has_space s
