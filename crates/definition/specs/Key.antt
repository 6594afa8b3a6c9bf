-- "The key": the bytes that are hashed, and the key shown as digits.
use Rattle.std.specs.Prelude.{ℕ, zero, suc, ◌+◌, ◌/◌, ◌%◌, List, [], ◌∷◌, ◌++◌, cond, ltb, length, take}
use Rattle.std.proofs.Math.Option.{Option, none, some}
use Rattle.octets.specs.Bytes.{Bytes, ascii, be32}
use Rattle.fips180.specs.Sha256.{sha256_of}
use Rattle.definition.specs.Value.{ObjectValue, nf_instance, interface, peer, session_store, slice, tenant, certificate, data_plane_queue, PlacesValue, KeyValue}

-- "strings and options encoded as in a call": a u32 length and its bytes; byte 0, or byte 1 and the string
abbrev pub string : Bytes → Bytes
string s = be32 (length s) ++ s

abbrev pub optional : Option Bytes → Bytes
optional none = 0 ∷ []
optional (some s) = 1 ∷ string s

unfoldable pub strings : List Bytes → Bytes
strings [] = []
strings (s ∷ r) = string s ++ strings r

-- "queue in decimal digits": at most n of them, in front of d
unfoldable pub digits_from : ℕ → ℕ → Bytes → Bytes
digits_from zero q d = d
digits_from (suc n) q d = let more = (48 + q % 10) ∷ d in cond (ltb q 10) more (digits_from n (q / 10) more)

unfoldable pub decimal : ℕ → Bytes
decimal q = digits_from 5 q []

-- ---- an affected object in parts: its kind's number and tag, its strings, kind 4's shard, kind 8's queue

pub record Parts : Type 0 where
  pub kind : ℕ
  pub tag : Bytes
  pub names : List Bytes
  pub shard : Option (Option Bytes)
  pub queue : Option ℕ

unfoldable pub parts : ObjectValue → Parts
parts (nf_instance a b) = record { kind = 1; tag = ascii "NfInstance"; names = a ∷ b ∷ []; shard = none; queue = none }
parts (interface a b) = record { kind = 2; tag = ascii "Interface"; names = a ∷ b ∷ []; shard = none; queue = none }
parts (peer a b) = record { kind = 3; tag = ascii "Peer"; names = a ∷ b ∷ []; shard = none; queue = none }
parts (session_store a h) = record { kind = 4; tag = ascii "SessionStore"; names = a ∷ []; shard = some h; queue = none }
parts (slice a) = record { kind = 5; tag = ascii "Slice"; names = a ∷ []; shard = none; queue = none }
parts (tenant a) = record { kind = 6; tag = ascii "Tenant"; names = a ∷ []; shard = none; queue = none }
parts (certificate a) = record { kind = 7; tag = ascii "Certificate"; names = a ∷ []; shard = none; queue = none }
parts (data_plane_queue a b q) = record { kind = 8; tag = ascii "DataPlaneQueue"; names = a ∷ b ∷ []; shard = none; queue = some q }

-- ---- "type; cause name; kind's tag and strings (queue in decimal digits); tenant?, slice?, region?"

abbrev fed_shard : Option (Option Bytes) → Bytes
fed_shard none = []
fed_shard (some h) = optional h

abbrev fed_queue : Option ℕ → Bytes
fed_queue none = []
fed_queue (some q) = string (decimal q)

unfoldable pub fed_object : ObjectValue → Bytes
fed_object o =
    let p = parts o in
    string p.tag ++ (strings p.names ++ (fed_shard p.shard ++ fed_queue p.queue))

unfoldable pub fed_places : PlacesValue → Bytes
fed_places p = optional p.tenant ++ (optional p.slice ++ optional p.region)

unfoldable pub fed : Bytes → KeyValue → Bytes
fed type k = string type ++ (string k.cause ++ (fed_object k.object ++ fed_places k.places))

-- "the first 16 bytes of SHA-256 (FIPS 180-4) over it"
unfoldable pub key_of : Bytes → KeyValue → Bytes
key_of type k = take 16 (sha256_of (fed type k))

-- "shown as 32 lower-case hexadecimal digits"
abbrev pub hex_digit : ℕ → ℕ
hex_digit n = cond (ltb n 10) (48 + n) (87 + n)

unfoldable pub hex : Bytes → Bytes
hex [] = []
hex (b ∷ s) = hex_digit (b / 16) ∷ hex_digit (b % 16) ∷ hex s
