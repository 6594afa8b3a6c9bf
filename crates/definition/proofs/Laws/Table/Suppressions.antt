-- M-105: what the smallest lists with ends leave, by computation: where an end is stored, what removes it and what keeps it, which alarms operation
-- 14 lifts, and when 34 is given.
use Rattle.std.specs.Prelude.{ℕ, ◌≡◌, refl, List, [], ◌∷◌, map, T}
use Rattle.std.proofs.Math.Option.{Option, none, some}
use Rattle.octets.specs.Bytes.{Bytes, number_at}
use Rattle.definition.proofs.Laws.Table.Calls.{raise, raise_as, clear, acknowledge, suppress, suppress_by_policy, suppress_until, expire, lift}
use Rattle.definition.proofs.Laws.Table.Shown.{ample, replies_to, Told, answered, counted, leaving, of_chain}
use Rattle.definition.proofs.Laws.Table.Stations.{all_octets, computed, by_stations}

-- of an alarm record, its state, updated_at, whether it holds an end, and the end: bytes 21, 30 to 37, 1455, and 1456 to 1463
pub record Mark : Type 0 where
  pub state : ℕ
  pub updated : ℕ
  pub present : ℕ
  pub end : ℕ

abbrev mark_of : Bytes → Mark
mark_of r = record { state = number_at 1 r 21; updated = number_at 8 r 30; present = number_at 1 r 1455; end = number_at 8 r 1456 }

-- in a state, without an end; suppressed, with one
abbrev at : ℕ → ℕ → Mark
at state updated = record { state = state; updated = updated; present = 0; end = 0 }

abbrev until : ℕ → ℕ → Mark
until updated end = record { state = 3; updated = updated; present = 1; end = end }

-- on the active chain, and in history
abbrev marks_on : Bytes → List Mark × List Mark
marks_on b = (map mark_of (of_chain 12 0 1536 b), map mark_of (of_chain 20 0 1536 b))

unfoldable pub marks_behind : List Bytes → List Told × (List Mark × List Mark)
marks_behind l = leaving marks_on (replies_to l)

-- number, code and the head's number of each call
unfoldable pub told_by : List Bytes → List (ℕ × Option ℕ × ℕ)
told_by l = counted (replies_to l)

-- a raise of `a` at time 0, and its suppression by a call at time 0
abbrev once : Bytes
once = raise 0 "a" "a"

abbrev timed : ℕ → Bytes
timed end = suppress_until 0 end "a"

pub record EndsKept : Type 0 where
  -- "it is kept in the alarm record", and so in history
  pub kept : marks_behind (once ∷ timed 1 ∷ []) ≡ (answered 1 ∷ answered 6 ∷ [], (until 0 1 ∷ [], at 0 0 ∷ until 0 1 ∷ []))
  -- before raised_at it is kept as sent: what it must be later than is the call's time
  pub past : marks_behind (raise 2 "a" "a" ∷ timed 1 ∷ []) ≡ (answered 1 ∷ answered 6 ∷ [], (until 2 1 ∷ [], at 0 2 ∷ until 2 1 ∷ []))
  -- "a raise keeps it", also one at a time behind it; the entry of the suppression is overwritten, for the end is no part of sameness
  pub raised : marks_behind (once ∷ timed 1 ∷ raise 5 "a" "a" ∷ []) ≡ (answered 1 ∷ answered 6 ∷ answered 2 ∷ [], (until 5 1 ∷ [], at 0 0 ∷ until 5 1 ∷ []))
  -- "alarm unchanged": where the audit chain is full, where the call is not authorised
  pub failed : marks_behind (once ∷ timed 1 ∷ timed 2 ∷ []) ≡ (answered 1 ∷ answered 6 ∷ answered 9 ∷ [], (until 0 1 ∷ [], at 0 0 ∷ until 0 1 ∷ []))
  pub denied : marks_behind (once ∷ timed 1 ∷ acknowledge "a" 0 ∷ []) ≡ (answered 1 ∷ answered 6 ∷ answered 8 ∷ [], (until 0 1 ∷ [], at 0 0 ∷ until 0 1 ∷ []))
  -- "Operation 13 is operation 6": its gates too
  pub critical : marks_behind (raise_as 5 ∷ timed 1 ∷ []) ≡ (answered 1 ∷ answered 8 ∷ [], (at 0 0 ∷ [], at 0 0 ∷ []))

pub record EndsRemoved : Type 0 where
  -- "An acknowledge, a clear, an expiry or a plain or untimed suppress removes the end"; an expiry does not wait for it
  pub acknowledged : marks_behind (once ∷ timed 1 ∷ acknowledge "a" 1 ∷ []) ≡ (answered 1 ∷ answered 6 ∷ answered 7 ∷ [], (at 2 0 ∷ [], at 0 0 ∷ until 0 1 ∷ at 2 0 ∷ []))
  pub cleared : marks_behind (once ∷ timed 1 ∷ clear 0 "a" ∷ []) ≡ (answered 1 ∷ answered 6 ∷ answered 3 ∷ [], ([], at 0 0 ∷ until 0 1 ∷ at 4 0 ∷ []))
  pub expired : marks_behind (once ∷ timed 2 ∷ expire 1 ∷ []) ≡ (answered 1 ∷ answered 6 ∷ answered 11 ∷ [], ([], at 0 0 ∷ until 0 2 ∷ at 5 1 ∷ []))
  pub plainly : marks_behind (once ∷ timed 1 ∷ suppress "a" 1 ∷ []) ≡ (answered 1 ∷ answered 6 ∷ answered 6 ∷ [], (at 3 0 ∷ [], at 0 0 ∷ at 3 0 ∷ []))
  -- an untimed one by policy stores none: behind a timed one the audit chain would be full. A timed one behind a plain one has its end
  pub untimed : marks_behind (once ∷ suppress_by_policy 0 "a" 1 ∷ []) ≡ (answered 1 ∷ answered 6 ∷ [], (at 3 0 ∷ [], at 0 0 ∷ at 3 0 ∷ []))
  pub anew : marks_behind (once ∷ suppress "a" 1 ∷ timed 1 ∷ []) ≡ (answered 1 ∷ answered 6 ∷ answered 6 ∷ [], (until 0 1 ∷ [], at 0 0 ∷ until 0 1 ∷ []))

pub record EndsLifted : Type 0 where
  -- "an end not after the cutoff becomes updated, loses the end"; the entry of the suppression stays
  pub lifted : marks_behind (once ∷ timed 1 ∷ lift 1 ∷ []) ≡ (answered 1 ∷ answered 6 ∷ answered 11 ∷ [], (at 1 1 ∷ [], at 0 0 ∷ until 0 1 ∷ at 1 1 ∷ []))
  pub early : marks_behind (once ∷ timed 2 ∷ lift 1 ∷ []) ≡ (answered 1 ∷ answered 6 ∷ answered 11 ∷ [], (until 0 2 ∷ [], at 0 0 ∷ until 0 2 ∷ []))
  -- "updated_at as the larger of cutoff and raised_at": it may go back
  pub raised_later : marks_behind (raise 2 "a" "a" ∷ timed 1 ∷ lift 1 ∷ []) ≡ (answered 1 ∷ answered 6 ∷ answered 11 ∷ [], (at 1 2 ∷ [], at 0 2 ∷ until 2 1 ∷ at 1 2 ∷ []))
  pub back : marks_behind (once ∷ timed 1 ∷ raise 5 "a" "a" ∷ lift 1 ∷ []) ≡ (answered 1 ∷ answered 6 ∷ answered 2 ∷ answered 11 ∷ [], (at 1 1 ∷ [], at 0 0 ∷ until 5 1 ∷ at 1 1 ∷ []))
  -- "Alarms without an end are untouched by 14"
  pub untouched : marks_behind (once ∷ suppress "a" 1 ∷ lift 9 ∷ []) ≡ (answered 1 ∷ answered 6 ∷ answered 11 ∷ [], (at 3 0 ∷ [], at 0 0 ∷ at 3 0 ∷ []))
  -- "the number is reported under code 11": one of two alarms; none of a history
  pub number : told_by (raise 0 "b" "b" ∷ once ∷ timed 1 ∷ lift 1 ∷ lift 1 ∷ []) ≡ (0, some 1, 0) ∷ (0, some 1, 0) ∷ (0, some 6, 0) ∷ (0, some 11, 1) ∷ (0, some 11, 0) ∷ []
  pub gone : told_by (once ∷ timed 1 ∷ clear 0 "a" ∷ lift 1 ∷ []) ≡ (0, some 1, 0) ∷ (0, some 6, 0) ∷ (0, some 3, 0) ∷ (0, some 11, 0) ∷ []

-- of signed times: that before 0 is 2^64 - 1
pub record EndsRefused : Type 0 where
  -- 34 at the call's time and before it; not one later; before the alarm is looked for
  pub numbers :
      told_by (timed 0 ∷ suppress_until 1 0 "a" ∷ timed 18446744073709551615 ∷ timed 1 ∷ suppress_until 18446744073709551615 0 "a" ∷ [])
      ≡ (34, none, 0) ∷ (34, none, 0) ∷ (34, none, 0) ∷ (0, some 10, 0) ∷ (0, some 10, 0) ∷ []

marked : (l : List Bytes) {x : List Told × (List Mark × List Mark)} → T (all_octets (map ample l)) → leaving marks_on (computed (map ample l)) ≡ x → marks_behind l ≡ x
unfolding marks_behind
marked l = by_stations (leaving marks_on) l

tells : (l : List Bytes) {x : List (ℕ × Option ℕ × ℕ)} → T (all_octets (map ample l)) → counted (computed (map ample l)) ≡ x → told_by l ≡ x
unfolding told_by
tells l = by_stations counted l

pub ends_kept : EndsKept
unfolding all_octets computed
ends_kept =
    record {
      kept = marked _ tt refl;
      past = marked _ tt refl;
      raised = marked _ tt refl;
      failed = marked _ tt refl;
      denied = marked _ tt refl;
      critical = marked _ tt refl;
    }

pub ends_removed : EndsRemoved
unfolding all_octets computed
ends_removed =
    record {
      acknowledged = marked _ tt refl;
      cleared = marked _ tt refl;
      expired = marked _ tt refl;
      plainly = marked _ tt refl;
      untimed = marked _ tt refl;
      anew = marked _ tt refl;
    }

pub ends_lifted : EndsLifted
unfolding all_octets computed
ends_lifted =
    record {
      lifted = marked _ tt refl;
      early = marked _ tt refl;
      raised_later = marked _ tt refl;
      back = marked _ tt refl;
      untouched = marked _ tt refl;
      number = tells _ tt refl;
      gone = tells _ tt refl;
    }

pub ends_refused : EndsRefused
unfolding all_octets computed
ends_refused = record { numbers = tells _ tt refl }
