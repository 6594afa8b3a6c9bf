-- A sweep of the active chain: what is done at each turn, and at its end.
use Rattle.std.specs.Prelude.{ℕ, ◌+◌, ◌*◌, ◌≤◌, ◌<◌, ◌≡◌, List, map, Bool, length}
use Rattle.octets.specs.Bytes.{Bytes, at32}
use Rattle.definition.specs.Clauses.LegalBook.{last_of}
use Rattle.definition.specs.Chain.{Entry, on_content, those}
use Rattle.definition.specs.Alarm.{Alarm, is_due, is_over}
use Rattle.definition.specs.Record.{read_alarm}
use Rattle.definition.specs.Book.{Record, read_book}
use Rattle.definition.specs.Station.{Step, for_each}
use Rattle.definition.specs.Steps.{on_entry, retire_due, lift_over}
use Rattle.definition.specs.Clauses.Does.{Does}
use Rattle.history.specs.Meaning.{Newest}
use Rattle.register.specs.Walk.{Along}
use Rattle.expiry.specs.declared.Round.{Round}
use Rattle.expiry.specs.declared.Round.TheVariants.{Expire, Lift}
use Rattle.expiry.specs.declared.Stand.{Stand}

-- ---- the two rounds

-- which alarms it takes
abbrev pub takes : Round → ℕ → Alarm → Bool
takes Expire cutoff a = is_due cutoff a
takes Lift cutoff a = is_over cutoff a

-- what it does to one
abbrev pub step_of : Round → ℕ → Entry Alarm → Step (Unit {0})
step_of Expire cutoff e = retire_due cutoff e
step_of Lift cutoff e = lift_over cutoff e

-- which record stands before the next: of one that expires, which is gone, the one before it
abbrev pub kept_by : Round → ℕ → ℕ → ℕ
kept_by Expire previous at = previous
kept_by Lift previous at = at

-- ---- the sweep

-- those of a chain that are taken
abbrev pub taken_of : Round → ℕ → List Record → List (Entry Alarm)
taken_of round cutoff c = those (on_entry (takes round cutoff)) (map (on_content read_alarm) c)

-- all that are taken have been, n in number
pub record Swept (round : Round) (cutoff : ℕ) (b b' : Bytes) (n : ℕ) : Type 0 where
  pub does : Does (for_each (taken_of round cutoff (read_book b).active) (step_of round cutoff)) b b' tt
  pub number : n ≡ length (taken_of round cutoff (read_book b).active)

-- after k of n records: the register b₀ has become b, whose active chain is those passed that are still there and the rest, from record `at` on
pub record Sweep (round : Round) (cutoff : ℕ) (b₀ b : Bytes) (n at : ℕ) (s : Stand) (k : ℕ) : Type 0 where
  pub newest : Newest b s.ends.history
  pub kept : List Record
  pub rest : List Record
  pub along : Along b 0 at kept rest
  pub left : k + length rest ≡ n
  pub before : s.kept ≡ last_of kept
  pub few : s.taken ≤ k
  pub counted : s.taken + length (taken_of round cutoff rest) ≡ length (taken_of round cutoff (read_book b₀).active)
  pub whole : (c : Bytes) → Does (for_each (taken_of round cutoff rest) (step_of round cutoff)) b c tt → Does (for_each (taken_of round cutoff (read_book b₀).active) (step_of round cutoff)) b₀ c tt

-- the sweep goes on by record `at`, to what its link names
abbrev pub Passes : Round → ℕ → Bytes → Bytes → ℕ → Stand → Stand → Type 0
Passes round cutoff b b' at s s' = (b₀ : Bytes) (n k r : ℕ) → Sweep round cutoff b₀ b n at s k → k < n → r ≡ at32 b (1536 * at) → Sweep round cutoff b₀ b' n r s' (k + 1)
