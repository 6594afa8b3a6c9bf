-- What the check's answers say.
use Rattle.std.specs.Prelude.{ℕ, ◌+◌, ◌*◌, ◌≤◌, ◌≡◌, Bool, true, false, Option, Some, None, take, drop}
use Rattle.octets.specs.Bytes.{Bytes, same, zeros, at32}
use Rattle.definition.specs.Record.{last_active, last_state, sound_alarm, sound_event}
use Rattle.definition.specs.Book.{Record, payload_width, capacity, walk, every, read_book}
use Rattle.definition.specs.Sound.{sound}
use Rattle.definition.specs.Clauses.LegalBook.{last_of}
use Rattle.definition.specs.Clauses.Check.{Leads, Numbers}
use Rattle.register.specs.Meaning.{chain_number, Standing}
use Rattle.register.specs.declared.Chain.{Chain}
use Rattle.register.specs.declared.Chain.TheVariants.{Active, History, Audit, Free}
use Rattle.register.specs.declared.Ends.{Ends}

-- ---- the answer

-- an answer is right: the bytes are sound, and their chains end there; or they are not, "22"
abbrev pub Gives : Option Ends → Bytes → Type 0
Gives (Some e) b = Standing b e
Gives None b = sound b ≡ false

-- ---- one chain

-- what a record of each chain must hold: "each alarm's fields legal ..", "active chain states active", "a freed record is zeroed"
abbrev pub holds : Chain → Bytes → Bool
holds Active p = sound_alarm last_active p
holds History p = sound_alarm last_state p
holds Audit p = sound_event p
holds Free p = same (zeros payload_width) p

abbrev pub passes : Chain → Record → Bool
passes x e = holds x e.content

-- r is the link of record i, where a register with m records has it
abbrev pub Linked : Bytes → ℕ → ℕ → ℕ → Type 0
Linked b m i r = (i ≡ 0 → ⊥) → i ≤ m → r ≡ at32 b (1536 * i)

-- a walk over n records from i on, of a register with m: its links lead to 0, each record passes, and l is the last; or not so
abbrev pub Walks : Option ℕ → Chain → Bytes → ℕ → ℕ → ℕ → Type 0
Walks (Some l) x b m n i = Leads b m n i × (every (passes x) (walk b n i) ≡ true) × (l ≡ last_of (walk b n i))
Walks None x b m n i = Leads b m n i → every (passes x) (walk b n i) ≡ true → ⊥

-- the walk of chain x, by the header's head and length
abbrev pub WalksChain : Option ℕ → Chain → Bytes → ℕ → Type 0
WalksChain w x b m = Walks w x b m (at32 b (16 + 8 * chain_number x)) (at32 b (12 + 8 * chain_number x))

-- ---- the header

-- room for m records, right numbers, and zeros behind them
pub record Headed (b : Bytes) (m : ℕ) : Type 0 where
  pub room : m ≡ capacity (read_book b)
  pub numbers : Numbers b
  pub tail : take 1476 (drop 60 b) ≡ zeros 1476

-- the header's room; or no room makes it right
abbrev pub Heads : Option ℕ → Bytes → Type 0
Heads (Some m) b = Headed b m
Heads None b = (m : ℕ) → Headed b m → ⊥
