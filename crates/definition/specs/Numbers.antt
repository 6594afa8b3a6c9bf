-- The table of numbers, as requests have amended it: why an opening or a call is refused. What is given is 0 or one of these: Claim.antt.
use Rattle.std.specs.Prelude.{ℕ, List, [], ◌∷◌, ◌++◌, Bool, false, ◌||◌, T, eqb}

-- opening: 20 "a limit is 0 or above 65,535", 21 "the slice is not 1,536 × (1+A+H+E)"
abbrev pub opening_refusals : List ℕ
opening_refusals = 20 ∷ 21 ∷ []

-- "call, field by field": 23 "empty, or op not 1 to 14", 24 "ends early, or bytes left over", 25 "a byte outside its values", 26 "length above
-- its limit", 27 "string not UTF-8", 28 "not a cause", 29 "raise with an empty region"; M-104: 33 "a raise whose well-formed text has more than
-- 120 code points"; M-105: 34 "an end not later than the call's time, after all field checks"
abbrev pub call_refusals : List ℕ
call_refusals = 23 ∷ 24 ∷ 25 ∷ 26 ∷ 27 ∷ 28 ∷ 29 ∷ 33 ∷ 34 ∷ []

-- on a sound register: the call's; answer: 30 "shorter than 1,552 .. or than the answer"; step: 31 "raise would store an id that is active".
-- M-107: "no call on any sound register gives 32, then remove it from code and table"
abbrev pub sound_refusals : List ℕ
sound_refusals = call_refusals ++ (30 ∷ 31 ∷ [])

-- on any bytes: register: 22 "not sound", and these
abbrev pub step_refusals : List ℕ
step_refusals = 22 ∷ sound_refusals

-- M-102: "An unsound register gives 22, then a block not of eight bytes 30"
abbrev pub panel_refusals : List ℕ
panel_refusals = 22 ∷ 30 ∷ []

abbrev pub among : ℕ → List ℕ → Bool
among n [] = false
among n (k ∷ l) = eqb n k || among n l

abbrev pub Among : ℕ → List ℕ → Type 0
Among n l = T (among n l)
