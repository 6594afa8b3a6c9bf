-- What a ruler leaves of a string's room, along which it is laid.
use Rattle.std.specs.Prelude.{[], ◌∷◌, ◌++◌, ℕ, replicate}
use Rattle.std.specs.Int.Bits.{bit_and}
use Rattle.octets.specs.Bytes.{Bytes}

-- bytes of the highest bit alone
unfoldable pub highs : ℕ → Bytes
highs n = replicate n 128

unfoldable pub ones : ℕ → Bytes
ones n = replicate n 255

-- as many bytes of the highest bit as the widest room has, and as many bytes of ones
unfoldable pub ruler_bytes : Bytes
ruler_bytes = highs 512 ++ ones 512

-- what `and` leaves of s
unfoldable pub under : Bytes → Bytes → Bytes
under [] r = []
under (b ∷ s) [] = []
under (b ∷ s) (m ∷ r) = bit_and b m ∷ under s r
