-- What the table shows: of calls on the fresh register with A=2, H=3, E=1, what each returned and answered, and bytes of the register that
-- they leave, at the offsets of docs/LAYOUT.md. For the rows of Marked, for EachNumber, YearlyBalance, WrongSeverity, Headline, Raises, Suppressions and
-- Panels.
use Rattle.std.specs.Prelude.{ℕ, zero, suc, ◌+◌, ◌*◌, ◌≡◌, List, [], ◌∷◌, map, take, drop}
use Rattle.std.proofs.Math.Option.{Option, none, some}
use Rattle.octets.specs.Bytes.{Bytes, value, number_at, at32}
use Rattle.definition.specs.Value.{RaiseValue, CallValue}
use Rattle.definition.specs.Key.{fed}
use Rattle.definition.specs.Parse.{parse_call}
use Rattle.definition.specs.Station.{fresh}
use Rattle.definition.specs.Sound.{encode}
use Rattle.definition.specs.Lists.{Reply, run}

-- "A register with A=2, H=3, E=1"; that it is fresh is a row of the table
abbrev pub register : Bytes
register = encode (fresh 2 3 1)

-- a call with an answer slice of 65,536 bytes, which is ample
abbrev pub ample : Bytes → Bytes × ℕ
ample call = (call, 65536)

-- the replies to calls, one after the other
unfoldable pub replies_to : List Bytes → List Reply
replies_to l = run (map ample l) register

-- ---- the bytes that are hashed for a raise's key

pub record Hashes (call s : Bytes) : Type 0 where
  pub raise : RaiseValue
  pub read : parse_call call ≡ CallValue.raise raise
  pub feeds : fed raise.head.type raise.key ≡ s

-- ---- what calls returned and answered: the number, and byte 0 of the answer, its code

abbrev pub code_of : Bytes → Option ℕ
code_of [] = none
code_of (c ∷ s) = some c

abbrev pub Told : Type 0
Told = ℕ × Option ℕ

-- "Every other call returns 0": with the code c
abbrev pub answered : ℕ → Told
answered c = (0, some c)

abbrev pub told : List Reply → List Told
told q = map (λ (r : Reply). (r.number, code_of r.answer)) q

-- "A refusal returns its number and length 0; register and answer are unchanged"
abbrev pub refused : ℕ → Reply
refused n = record { number = n; length = 0; answer = []; register = register }

-- "Head of 16: code, three zeros, u32 item count, u64 number": number, code and the head's number
abbrev pub counted : List Reply → List (ℕ × Option ℕ × ℕ)
counted q = map (λ (r : Reply). (r.number, code_of r.answer, number_at 8 r.answer 8)) q

-- the last call's answer, and the item count in its head
abbrev pub last_answer : List Reply → Bytes
last_answer [] = []
last_answer (r ∷ []) = r.answer
last_answer (r ∷ (r' ∷ q)) = last_answer (r' ∷ q)

abbrev pub last_count : List Reply → ℕ
last_count q = number_at 4 (last_answer q) 4

-- ---- the register that calls leave

abbrev pub left_from : Bytes → List Reply → Bytes
left_from b [] = b
left_from b (r ∷ q) = left_from r.register q

abbrev pub left : List Reply → Bytes
left q = left_from register q

-- what calls told, and what is read of the register that they leave
abbrev pub leaving : {A : Type 0} → (Bytes → A) → List Reply → List Told × A
leaving read q = (told q, read (left q))

-- where n records begin, the first of them record i: "Bytes 0 to 3 are the next index"
unfoldable pub offsets : Bytes → ℕ → ℕ → List ℕ
offsets b zero i = []
offsets b (suc n) i = 1536 * i ∷ offsets b n (at32 b (1536 * i))

-- n bytes of each record on a chain, from a field's offset on: the chain's head is at `head` and its length behind it, in four bytes each
abbrev pub of_chain : ℕ → ℕ → ℕ → Bytes → List Bytes
of_chain head field n b = map (λ (k : ℕ). take n (drop (k + field) b)) (offsets b (at32 b (head + 4)) (at32 b head))

-- active_head 12: updated_at 30 to 37; cause length 179, cause 181 to 276
abbrev pub active_updated : Bytes → List Bytes
active_updated b = of_chain 12 30 8 b

abbrev pub active_causes : Bytes → List Bytes
active_causes b = of_chain 12 179 98 b

-- history_head 20: state 21; cleared_at present 38, cleared_at 39 to 46
abbrev pub history_states : Bytes → List Bytes
history_states b = of_chain 20 21 1 b

abbrev pub history_cleared : Bytes → List Bytes
history_cleared b = of_chain 20 38 9 b

-- raises 1451 to 1454, on the active chain and in history
abbrev pub raises_on : Bytes → List ℕ × List ℕ
raises_on b = (map value (of_chain 12 1451 4 b), map value (of_chain 20 1451 4 b))

-- in the header audit_length 32, successes 44, failures 52
abbrev pub audited : Bytes → ℕ × ℕ × ℕ
audited b = (at32 b 32, number_at 8 b 44, number_at 8 b 52)
