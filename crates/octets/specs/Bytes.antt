-- Lists of bytes: numbers in them, the most significant byte first, and lists compared, filled and replaced in part.
use Rattle.std.specs.Prelude.{List, [], ◌∷◌, ◌++◌, Bool, true, false, ◌&&◌, ℕ, zero, suc, ◌+◌, ◌*◌, ◌/◌, ◌%◌, ◌<◌, eqb, length, take, drop, get_or, replicate}
use Prim.Native.String.{String}
use Prim.Native.Char.{code}

abbrev pub Bytes : Type 0
Bytes = List ℕ

-- each is a byte
abbrev pub Octets : Bytes → Type 0
Octets s = (i : ℕ) → get_or s i 0 < 256

-- the bytes of an ASCII text
abbrev pub ascii : String → Bytes
ascii String.[] = []
ascii (String.◌∷◌ c s) = code c ∷ ascii s

-- ---- compared

unfoldable pub same : Bytes → Bytes → Bool
same [] [] = true
same [] (b ∷ t) = false
same (a ∷ s) [] = false
same (a ∷ s) (b ∷ t) = eqb a b && same s t

-- p is the beginning of s
unfoldable pub begins : Bytes → Bytes → Bool
begins [] s = true
begins (a ∷ p) [] = false
begins (a ∷ p) (b ∷ s) = eqb a b && begins p s

-- ---- zeros

unfoldable pub zeros : ℕ → Bytes
zeros n = replicate n 0

-- all bytes of s are zero
unfoldable pub blank : Bytes → Bool
blank s = same (zeros (length s)) s

-- n bytes: those of s, and zeros behind them
unfoldable pub pad : ℕ → Bytes → Bytes
pad n s = take n (s ++ zeros n)

-- ---- numbers

-- the n bytes of a number
unfoldable pub digits : ℕ → ℕ → Bytes
digits zero v = []
digits (suc n) v = digits n (v / 256) ++ (v % 256 ∷ [])

abbrev pub be32 : ℕ → Bytes
be32 v = digits 4 v

abbrev pub be64 : ℕ → Bytes
be64 v = digits 8 v

-- the number that bytes are, with v before them
unfoldable pub value_from : ℕ → Bytes → ℕ
value_from v [] = v
value_from v (b ∷ s) = value_from (v * 256 + b) s

abbrev pub value : Bytes → ℕ
value s = value_from 0 s

-- the number in the n bytes of b from k on
abbrev pub number_at : ℕ → Bytes → ℕ → ℕ
number_at n b k = value (take n (drop k b))

abbrev pub at32 : Bytes → ℕ → ℕ
at32 b k = number_at 4 b k

-- ---- replaced in part

-- b with v in the place of its bytes from k on
unfoldable pub splice : Bytes → ℕ → Bytes → Bytes
splice b k v = take k b ++ (v ++ drop (k + length v) b)
