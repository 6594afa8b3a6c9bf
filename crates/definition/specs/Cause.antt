-- "Cause names": `FromStr` of `ProbableCause`.
use Rattle.std.specs.Prelude.{ℕ, List, [], ◌∷◌, ◌++◌, Bool, true, false, cond, ◌&&◌, ◌||◌, not, eqb, drop}
use Rattle.std.proofs.Math.Option.{Option, none, some}
use Rattle.octets.specs.Bytes.{Bytes, ascii, same, begins}
use Rattle.definition.specs.White.{trim, has_space}

-- "its 21 names, byte for byte"
abbrev pub names : List Bytes
names =
    ascii "config-apply-failed"
    ∷ ascii "config-drift-detected"
    ∷ ascii "certificate-expiring"
    ∷ ascii "certificate-expired"
    ∷ ascii "identity-unavailable"
    ∷ ascii "authorization-policy-invalid"
    ∷ ascii "session-store-unavailable"
    ∷ ascii "lease-lost"
    ∷ ascii "backend-timeout"
    ∷ ascii "nrf-unreachable"
    ∷ ascii "sbi-overload"
    ∷ ascii "peer-unreachable"
    ∷ ascii "packet-drop-threshold"
    ∷ ascii "dataplane-preflight-failed"
    ∷ ascii "storage-corruption"
    ∷ ascii "audit-chain-invalid"
    ∷ ascii "key-unavailable"
    ∷ ascii "li-delivery-failed"
    ∷ ascii "charging-export-failed"
    ∷ ascii "privacy-policy-violation"
    ∷ ascii "security-break-glass"
    ∷ []

-- s is one of the texts
unfoldable pub one_of : List Bytes → Bytes → Bool
one_of [] s = false
one_of (n ∷ ns) s = same n s || one_of ns s

-- b in front of the first text
abbrev pub onto : ℕ → List Bytes → List Bytes
onto b [] = (b ∷ []) ∷ []
onto b (t ∷ ts) = (b ∷ t) ∷ ts

-- the parts of s between its dots
unfoldable pub segments : Bytes → List Bytes
segments [] = [] ∷ []
segments (b ∷ s) = cond (eqb b 46) ([] ∷ segments s) (onto b (segments s))

unfoldable pub has_dot : Bytes → Bool
has_dot [] = false
has_dot (b ∷ s) = eqb b 46 || has_dot s

-- not empty
abbrev pub full : Bytes → Bool
full [] = false
full (b ∷ s) = true

unfoldable pub all_full : List Bytes → Bool
all_full [] = true
all_full (t ∷ ts) = full t && all_full ts

-- "has a dot and whose dot-separated segments are non-empty and hold no whitespace"
unfoldable pub dotted : Bytes → Bool
dotted t = has_dot t && (not (has_space t) && all_full (segments t))

abbrev pub other : Bytes
other = ascii "other:"

-- "`other:` and the trimmed name are what is stored, hashed and answered"
abbrev pub other_of : Bytes → Option Bytes
other_of t = cond (dotted t) (some (other ++ t)) none

-- the stored form of s, none where s is no cause
unfoldable pub cause_of : Bytes → Option Bytes
cause_of s = cond (one_of names s) (some s) (cond (begins other s) (other_of (trim (drop 6 s))) none)

-- a stored form, and it is s
abbrev pub same_as : Bytes → Option Bytes → Bool
same_as s none = false
same_as s (some t) = same t s

-- "causes in their stored form": s is a cause whose stored form it is
unfoldable pub stored : Bytes → Bool
stored s = same_as s (cause_of s)
