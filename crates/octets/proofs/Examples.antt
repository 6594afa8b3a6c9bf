-- The definitions of Bytes at small inputs: the most significant byte stands first. Assumes nothing.
use mathlib.Core.Path.{◌≡◌, refl}
use mathlib.Core.Bool.{true, false}
use mathlib.Core.List.{[], ◌∷◌}
use Rattle.octets.specs.Bytes.{same, begins, zeros, blank, pad, digits, value_from, number_at, splice, ascii}

four : digits 4 0x12345678 ≡ 0x12 ∷ 0x34 ∷ 0x56 ∷ 0x78 ∷ []
unfolding digits
four = refl

-- what does not fit is left out
too_large : digits 2 0x12345678 ≡ 0x56 ∷ 0x78 ∷ []
unfolding digits
too_large = refl

read : number_at 2 (9 ∷ 1 ∷ 2 ∷ 9 ∷ []) 1 ≡ 0x0102
unfolding value_from
read = refl

replaced : splice (1 ∷ 2 ∷ 3 ∷ 4 ∷ []) 1 (8 ∷ 9 ∷ []) ≡ 1 ∷ 8 ∷ 9 ∷ 4 ∷ []
unfolding splice
replaced = refl

padded : pad 4 (ascii "ab") ≡ 97 ∷ 98 ∷ 0 ∷ 0 ∷ []
unfolding pad zeros
padded = refl

last_byte : blank (0 ∷ 0 ∷ 1 ∷ []) ≡ false
unfolding blank same zeros
last_byte = refl

none : blank [] ≡ true
unfolding blank same zeros
none = refl

beginning : begins (ascii "ab") (ascii "abc") ≡ true
unfolding begins
beginning = refl

longer : same (ascii "ab") (ascii "abc") ≡ false
unfolding same
longer = refl
