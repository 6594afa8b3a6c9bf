-- M-113, "How far one wrong severity reaches": "Technicians sometimes enter minor for major and wonder how much of the day's figures is
-- spoilt."
use Rattle.std.specs.Prelude.{ℕ, suc, ◌≤◌, ◌≡◌, List, [], ◌∷◌, ◌++◌, map, Bool, false, not, ◌&&◌, ◌||◌, T, eqb, length, take, drop}
use Rattle.octets.specs.Bytes.{Bytes}
use Rattle.definition.specs.Limits.{short_limit}
use Rattle.definition.specs.Reader.{got, Reader, ◌>>=◌, give, number, text}
use Rattle.definition.specs.Chain.{contents, those}
use Rattle.definition.specs.Alarm.{has_severity}
use Rattle.definition.specs.Perform.{asks_record}
use Rattle.definition.specs.Numbers.{Among}
use Rattle.definition.specs.Sound.{station, sound}
use Rattle.definition.specs.Twins.{AtEach}
use Rattle.definition.specs.Claim.{Fresh, Made, Trace, operation, asked, AllOctets}
use Rattle.definition.specs.Balance.{is_answered, active_length}

-- ---- "two lists .. differ only in the legal severity byte of one raise"

-- a raise's fields before its severity: time, id, type
unfoldable pub before_severity : Reader (ℕ × Bytes × Bytes)
before_severity = do
  time ← number 8
  id ← text short_limit
  type ← text short_limit
  give (time, id, type)

-- two raises with the same bytes, but for the severity: v and v'. `before` is what is read before it; `after` may be of any kind
pub record SeverityApart (v v' : ℕ) (b b' : Bytes) : Type 0 where
  pub before : Bytes
  pub after : Bytes
  pub is : b ≡ 1 ∷ (before ++ (v ∷ after))
  pub is' : b' ≡ 1 ∷ (before ++ (v' ∷ after))
  pub fields : ℕ × Bytes × Bytes
  pub read : before_severity (before ++ (v ∷ after)) ≡ got fields (v ∷ after)
  pub legal : v ≤ 5
  pub legal' : v' ≤ 5

-- two lists with the same calls and answer lengths, but for one such raise
pub record OneApart (v v' : ℕ) (l l' : List (Bytes × ℕ)) : Type 0 where
  pub earlier : List (Bytes × ℕ)
  pub later : List (Bytes × ℕ)
  pub call : Bytes
  pub call' : Bytes
  pub answer_length : ℕ
  pub is : l ≡ earlier ++ ((call, answer_length) ∷ later)
  pub is' : l' ≡ earlier ++ ((call', answer_length) ∷ later)
  pub apart : SeverityApart v v' call call'

-- they were made, one from the register b and the other from b'
pub record MadeApart (v v' : ℕ) (b b' : Bytes) (l l' : List Made) : Type 0 where
  pub made : Trace b l
  pub made' : Trace b' l'
  pub octets : AllOctets l
  pub octets' : AllOctets l'
  pub apart : OneApart v v' (map asked l) (map asked l')

-- ---- "Policy calls are left aside, since a critical severity may stop a suppression."

-- "5, 6 the same with policy"; M-105: "Operation 13 is operation 6"
abbrev pub is_policy : ℕ → Bool
is_policy op = eqb op 5 || eqb op 6 || eqb op 13

-- no policy call is answered. Refused calls change nothing, and may stand in a list whatever their first byte is
abbrev pub NoPolicy : List Made → Type 0
NoPolicy [] = Unit {0}
NoPolicy (m ∷ l) = (is_policy (operation m) && is_answered m ≡ false) × NoPolicy l

-- the calls behind the raise: up to it both lists keep one register
abbrev pub behind : {v v' : ℕ} {b b' : Bytes} {l l' : List Made} → MadeApart v v' b b' l l' → List Made → List Made
behind d k = drop (suc (length d.apart.earlier)) k

-- ---- "after every call the active lengths are equal, and the active count of each severity differs by at most one"

-- how many active alarms have the severity u; as for operation 8, 255 stands for all
abbrev pub active_count : ℕ → Bytes → ℕ
active_count u b = length (those (has_severity u) (contents (station b).active))

-- "differs by at most one"
pub record WithinOne (x y : ℕ) : Type 0 where
  pub above : x ≤ suc y
  pub below : y ≤ suc x

-- of two registers, where the raise has the severities v and v': of v alone the first can have the more alarms, of v' alone the second
pub record Bounded (v v' : ℕ) (b b' : Bytes) : Type 0 where
  pub lengths : active_length b ≡ active_length b'
  pub counts : (u : ℕ) → WithinOne (active_count u b) (active_count u b')
  pub first : (u : ℕ) → (u ≡ v → ⊥) → active_count u b ≤ active_count u b'
  pub second : (u : ℕ) → (u ≡ v' → ⊥) → active_count u b' ≤ active_count u b

-- operations 1 to 4, 7, 11 and 14: those that ask for a record's room, without policy calls
abbrev pub keeps_head : ℕ → Bool
keeps_head op = asks_record op && not (is_policy op)

-- "Head of 16: code, three zeros, u32 item count, u64 number"; a refusal has none
abbrev pub answer_head : Made → Bytes
answer_head m = take 16 (take m.length m.answer)

-- of two calls at the same place. These operations return the same number besides, and answer with the same head: no count of their
-- answers by code is spoilt, and no number of expired alarms
pub record BoundedAfter (v v' : ℕ) (m m' : Made) : Type 0 where
  pub registers : Bounded v v' m.register m'.register
  pub heads : T (keeps_head (operation m)) → (m.number ≡ m'.number) × (answer_head m ≡ answer_head m')

-- ---- the request's own premises: "ops 1 to 4 and 7 to 12 .., with answer slices long enough for every answer", so that none gives 30; M-105's
-- ---- operation 14 stands beside them, and 13 is left aside as a policy call

abbrev pub requested_operations : List ℕ
requested_operations = 1 ∷ 2 ∷ 3 ∷ 4 ∷ 7 ∷ 8 ∷ 9 ∷ 10 ∷ 11 ∷ 12 ∷ 14 ∷ []

abbrev pub Requested : List Made → Type 0
Requested [] = Unit {0}
Requested (m ∷ l) = Among (operation m) requested_operations × (m.number ≡ 30 → ⊥) × Requested l

-- ---- how far it reaches

pub record Reach : Type 0 where
  -- "from equal fresh registers", opened with the same limits. With equal answer lengths it holds for all lengths: operations 1 to 4, 7 and 14 ask
  -- for the same room in both lists, and the others leave the active chain as it is, answered or not
  pub fresh : (a h e v v' : ℕ) (b b' : Bytes) (l l' : List Made) → Fresh a h e b → Fresh a h e b' → (d : MadeApart v v' b b' l l') →
      NoPolicy (behind d l) → NoPolicy (behind d l') → AtEach (BoundedAfter v v') l l'
  -- the request's own sentence
  pub requested : (a h e v v' : ℕ) (b b' : Bytes) (l l' : List Made) → Fresh a h e b → Fresh a h e b' → MadeApart v v' b b' l l' →
      Requested l → Requested l' → AtEach (BoundedAfter v v') l l'
  -- from any sound register, as a running cabinet has it
  pub onward : (v v' : ℕ) (b : Bytes) (l l' : List Made) → T (sound b) → (d : MadeApart v v' b b l l') → NoPolicy (behind d l) → NoPolicy (behind d l') →
      AtEach (BoundedAfter v v') l l'
