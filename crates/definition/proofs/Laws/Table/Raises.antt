-- M-100: the raises in the records that the smallest lists leave, by computation: which calls count, that history has them as they were, and that
-- they are held at the most.
use Rattle.std.specs.Prelude.{ℕ, ◌≡◌, refl, List, [], ◌∷◌, map, T}
use Rattle.std.proofs.Math.Option.{none}
use Rattle.std.proofs.Common.{arith}
use Rattle.octets.specs.Bytes.{Bytes, number_at, be32, digits, splice}
use Rattle.definition.specs.Parse.{parse_call}
use Rattle.definition.specs.Book.{walk, read_book}
use Rattle.definition.specs.Mask.{mask_record, mask_chain, mask_register}
use Rattle.definition.specs.Chain.{Entry, replaced}
use Rattle.definition.specs.Alarm.{Alarm, with_raises}
use Rattle.definition.specs.Slot.{join}
use Rattle.definition.specs.Station.{Station, fresh, with_active, change_active}
use Rattle.definition.specs.Perform.{perform}
use Rattle.definition.specs.Sound.{encode}
use Rattle.definition.specs.Lists.{Reply, run}
use Rattle.definition.specs.Clauses.LegalFields.{Raises, Each, LegalAlarm}
use Rattle.definition.specs.Clauses.LegalStation.{LegalStation}
use Rattle.definition.proofs.Laws.Steps.ChangedLegal.{changed_legal}
use Rattle.definition.proofs.Laws.Steps.LegalMoves.{ended, change_active_legal}
use Rattle.definition.proofs.Laws.Twins.KeptLegal.{call_kept, station_after, legal_after}
use Rattle.definition.proofs.Laws.Table.Calls.{raise, clear, acknowledge, suppress, expire}
use Rattle.definition.proofs.Laws.Table.Shown.{ample, replies_to, Told, answered, told, left_from, left, leaving, raises_on}
use Rattle.definition.proofs.Laws.Table.Stations.{are_octets, octets, all_octets, replies, run_legal, register_legal, computed, by_stations}

-- what calls on the fresh register told, and the raises in the records that they leave: of the active chain, and of history
unfoldable pub raises_behind : List Bytes → List Told × (List ℕ × List ℕ)
raises_behind l = leaving raises_on (replies_to l)

-- the same raises in the register masked
unfoldable pub raises_masked : List Bytes → List ℕ × List ℕ
raises_masked l = raises_on (mask_register (left (replies_to l)))

-- a raise of `a`, once and again
abbrev once : Bytes
once = raise 0 "a" "a"

pub record RaisesCounted : Type 0 where
  -- "1 when raised", "copied to history"
  pub raised : raises_behind (once ∷ []) ≡ (answered 1 ∷ [], (1 ∷ [], 1 ∷ []))
  -- "one more at each answer Updated", "no part of history's sameness test": the first entry stays; that of the second raise is overwritten by the
  -- third, and has its raises
  pub overwritten : raises_behind (once ∷ once ∷ once ∷ []) ≡ (answered 1 ∷ answered 2 ∷ answered 2 ∷ [], (3 ∷ [], 1 ∷ 3 ∷ []))
  -- at the limit of two a third key counts nothing
  pub exceeded : raises_behind (once ∷ raise 0 "b" "b" ∷ raise 0 "c" "c" ∷ []) ≡ (answered 1 ∷ answered 1 ∷ answered 5 ∷ [], (1 ∷ 1 ∷ [], 1 ∷ 1 ∷ []))
  -- nor does a raise that is refused for its id
  pub refused : raises_behind (once ∷ raise 0 "a" "b" ∷ []) ≡ (answered 1 ∷ (31, none) ∷ [], (1 ∷ [], 1 ∷ []))
  -- an action counts nothing
  pub acted : raises_behind (once ∷ acknowledge "a" 1 ∷ suppress "a" 1 ∷ []) ≡ (answered 1 ∷ answered 7 ∷ answered 6 ∷ [], (1 ∷ [], 1 ∷ 1 ∷ 1 ∷ []))
  -- Updated is an answer: where the state stays 2 or 3 it counts too, and the entry of the action is overwritten
  pub stayed :
      raises_behind (once ∷ acknowledge "a" 1 ∷ once ∷ suppress "a" 1 ∷ once ∷ [])
      ≡ (answered 1 ∷ answered 7 ∷ answered 2 ∷ answered 6 ∷ answered 2 ∷ [], (3 ∷ [], 1 ∷ 2 ∷ 3 ∷ []))
  -- an expiry keeps the raises
  pub expired : raises_behind (once ∷ once ∷ expire 1 ∷ []) ≡ (answered 1 ∷ answered 2 ∷ answered 11 ∷ [], ([], 1 ∷ 2 ∷ 2 ∷ []))
  -- so does a clear; raised anew it starts at 1. The oldest of four entries has gone
  pub anew : raises_behind (once ∷ once ∷ clear 1 "a" ∷ once ∷ []) ≡ (answered 1 ∷ answered 2 ∷ answered 3 ∷ answered 1 ∷ [], (1 ∷ [], 2 ∷ 2 ∷ 1 ∷ []))
  -- "compared with both fields, their lengths and presence taken as zero": that leaves the raises
  pub masked : raises_masked (once ∷ once ∷ []) ≡ (2 ∷ [], 1 ∷ 2 ∷ [])

-- ---- a register in which record 1 holds another number: that which `once` leaves, with n at byte 1451 of the record

abbrev given : ℕ → Bytes
given n = splice (left (replies_to (once ∷ []))) 2987 (be32 n)

-- what calls on a register told, and the number there then
abbrev there : Bytes → List Reply → List Told × ℕ
there b q = (told q, number_at 4 (left_from b q) 2987)

unfoldable pub again_from : ℕ → List Told × ℕ
again_from n = there (given n) (run (ample once ∷ []) (given n))

pub record RaisesHeld : Type 0 where
  -- "older records hold 0": one more is 1
  pub older : again_from 0 ≡ (answered 2 ∷ [], 1)
  -- "held at 4,294,967,295": it is reached, and stays
  pub reached : again_from 4294967294 ≡ (answered 2 ∷ [], 4294967295)
  pub stays : again_from 4294967295 ≡ (answered 2 ∷ [], 4294967295)

computes :
    (l : List Bytes) {x : List Told × (List ℕ × List ℕ)} → T (all_octets (map ample l)) → leaving raises_on (computed (map ample l)) ≡ x → raises_behind l ≡ x
unfolding raises_behind
computes l = by_stations (leaving raises_on) l

pub raises_counted : RaisesCounted
unfolding raises_masked all_octets computed splice walk read_book mask_record mask_chain mask_register
raises_counted =
    record {
      raised = computes _ tt refl;
      overwritten = computes _ tt refl;
      exceeded = computes _ tt refl;
      refused = computes _ tt refl;
      acted = computes _ tt refl;
      stayed = computes _ tt refl;
      expired = computes _ tt refl;
      anew = computes _ tt refl;
      masked = by_stations (λ (q : List Reply). raises_on (mask_register (left q))) _ tt refl;
    }

-- ---- the register given is a legal station's

-- the first of some active alarms with other raises
unfoldable with_first_raises : ℕ → List (Entry Alarm) → Station → Station
with_first_raises n [] s = s
with_first_raises n (e ∷ c) s = with_active (replaced e.index (with_raises n e.content) s.active) s.free s

with_first_raises_legal : (n : ℕ) → Raises n → (c : List (Entry Alarm)) → Each (LegalAlarm 3) c → (s : Station) → LegalStation s → LegalStation (with_first_raises n c s)
unfolding with_first_raises change_active
with_first_raises_legal n k [] h s l = l
with_first_raises_legal n k (e ∷ c) h s l =
    let p = h.0 in
    ended (change_active_legal s l e.index (with_raises n e.content)
    (changed_legal e.content p p.severity p.text p.details p.state p.updated_at p.cleared_at k p.end))

-- that behind `once`
unfoldable behind : Station
behind = station_after (fresh 2 3 1) (perform (parse_call once) 65536 (fresh 2 3 1))

behind_legal : LegalStation behind
unfolding behind are_octets join digits
behind_legal = legal_after register_legal (call_kept once 65536 (fresh 2 3 1) (octets once tt) register_legal)

abbrev forged : ℕ → Station
forged n = with_first_raises n behind.active behind

again :
    (n : ℕ) {x : List Told × ℕ} → Raises n → given n ≡ encode (forged n) → there (encode (forged n)) (replies (forged n) (ample once ∷ [])) ≡ x → again_from n ≡ x
unfolding again_from all_octets join digits
again n k e h =
    let l = with_first_raises_legal n k behind.active behind_legal.fields.active behind behind_legal in
    rw (e, run_legal (ample once ∷ []) (forged n) l tt) h

pub raises_held : RaisesHeld
unfolding all_octets computed behind with_first_raises splice
raises_held =
    let is : (n : ℕ) → splice (left (computed (ample once ∷ []))) 2987 (be32 n) ≡ encode (forged n) → given n ≡ encode (forged n) =
    λ n e. by_stations (λ (q : List Reply). splice (left q) 2987 (be32 n)) (once ∷ []) tt e in
    record {
      older = again 0 (omega arith) (is 0 refl) refl;
      reached = again 4294967294 (omega arith) (is 4294967294 refl) refl;
      stays = again 4294967295 (omega arith) (is 4294967295 refl) refl;
    }
