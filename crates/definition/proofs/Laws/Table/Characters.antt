-- M-104: which texts a raise may have, by their code points, where 33 comes, and what it is not given for, computed.
use Rattle.std.specs.Prelude.{ℕ, ◌≡◌, refl, [], ◌∷◌, ◌++◌, map, true, replicate}
use Rattle.std.proofs.Math.Option.{Option, none, some}
use Rattle.octets.specs.Bytes.{Bytes, be64}
use Rattle.definition.specs.Key.{string}
use Rattle.definition.specs.Slot.{join}
use Rattle.definition.specs.Record.{long}
use Rattle.definition.specs.Reader.{Out, got, bad}
use Rattle.definition.specs.Parse.{raise_fields, policy_fields}
use Rattle.definition.proofs.Laws.Table.Calls.{byte, sent, absent, tenant, sent_before_text}
use Rattle.definition.proofs.Laws.Table.Computed.{parsed}

-- ---- texts

abbrev letters : ℕ → Bytes
letters n = replicate n 0x78

abbrev times : ℕ → Bytes → Bytes
times n s = join (replicate n s)

-- U+00E9, U+2103, U+1F6A1: an accented letter, a sign of three bytes, one of four
abbrev accented : Bytes
accented = 0xC3 ∷ 0xA9 ∷ []

abbrev degrees : Bytes
degrees = 0xE2 ∷ 0x84 ∷ 0x83 ∷ []

abbrev tramway : Bytes
tramway = 0xF0 ∷ 0x9F ∷ 0x9A ∷ 0xA1 ∷ []

-- ---- fields with a string at its place

-- a raise's, with the text and what follows it
abbrev with_text : Bytes → Bytes → Bytes
with_text t rest = sent_before_text 0 "a" "lease-lost" (tenant "a") absent ++ (string t ++ rest)

abbrev with_region : Bytes → Bytes
with_region r =
    join (be64 0 ∷ sent "a" ∷ sent "t" ∷ byte 3 ∷ sent "lease-lost" ∷ tenant "a" ∷ absent ∷ absent ∷ (1 ∷ string r) ∷ sent "" ∷ absent ∷ [])

-- a policy call's
abbrev with_reason : Bytes → Bytes
with_reason r = join (be64 0 ∷ sent "a" ∷ sent "p" ∷ absent ∷ string r ∷ byte 2 ∷ absent ∷ byte 0 ∷ byte 1 ∷ sent "no" ∷ [])

-- the number of a reader's fault
abbrev fault_of : {A : Type 0} → Out A → Option ℕ
fault_of (got a s) = none
fault_of (bad n) = some n

abbrev fault_with : Bytes → Option ℕ
fault_with t = fault_of (raise_fields (with_text t absent))

pub record Characters : Type 0 where
  -- "at most 120 code points and still at most 256 bytes": 120 letters, 120 accented ones, 120 code points in 256 bytes, 64 of four bytes
  pub within :
      map fault_with (letters 120 ∷ times 120 accented ∷ (letters 52 ++ times 68 degrees) ∷ times 64 tramway ∷ []) ≡ none ∷ none ∷ none ∷ none ∷ []
  -- "more than 120 code points": 121 letters, 121 accented ones, 121 code points in 256 bytes; 61 letters with a mark behind each, U+0301
  pub beyond :
      map fault_with (letters 121 ∷ times 121 accented ∷ (letters 53 ++ accented ++ times 67 degrees) ∷ times 61 (0x65 ∷ 0xCC ∷ 0x81 ∷ []) ∷ [])
      ≡ some 33 ∷ some 33 ∷ some 33 ∷ some 33 ∷ []
  -- "directly after 27 for that field": 257 letters, 121 letters and a byte that is in no row
  pub after : map fault_with (letters 257 ∷ (letters 121 ++ byte 0xFF) ∷ []) ≡ some 26 ∷ some 27 ∷ []
  -- before the details: their first byte is 2, or is not there
  pub before : map (λ (rest : Bytes). fault_of (raise_fields (with_text (letters 121) rest))) (byte 2 ∷ [] ∷ []) ≡ some 33 ∷ some 33 ∷ []
  -- "a raise's text": not its region, and not a reason
  pub alone : fault_of (raise_fields (with_region (letters 121))) ∷ fault_of (policy_fields (with_reason (letters 256))) ∷ [] ≡ none ∷ none ∷ []
  -- "longer texts already stored remain sound"
  pub stored : map long.ok (letters 121 ∷ letters 256 ∷ []) ≡ true ∷ true ∷ []

pub characters : Characters
unfolding parsed
characters = record { within = refl; beyond = refl; after = refl; before = refl; alone = refl; stored = refl }
