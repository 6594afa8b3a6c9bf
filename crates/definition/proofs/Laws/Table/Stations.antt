-- A list of calls on a legal station's bytes goes from station to station: a reply is what `perform` gives on the station, and its register
-- is the next one's bytes. So rows of the table are computed without testing 10,752 bytes for soundness at each call. For Marked,
-- EachNumber, YearlyBalance, WrongSeverity, Headline, Raises, Suppressions and Panels.
use Rattle.std.specs.Prelude.{ℕ, zero, suc, ◌≡◌, refl, List, [], ◌∷◌, map, Bool, true, ◌&&◌, T, ltb}
use Rattle.std.proofs.Common.{ap, ◌∙◌, arith, ltb→lt}
use Rattle.octets.specs.Bytes.{Bytes, Octets}
use Rattle.octets.specs.BoolLaws.{both_left, both_right}
use Rattle.definition.specs.Parse.{parse_call}
use Rattle.definition.specs.Chain.{up_from}
use Rattle.definition.specs.Station.{Station, fresh}
use Rattle.definition.specs.Perform.{perform}
use Rattle.definition.specs.Sound.{encode}
use Rattle.definition.specs.Lists.{Reply, reply_of, run}
use Rattle.definition.specs.Clauses.LegalStation.{LegalStation}
use Rattle.definition.proofs.Laws.Steps.StationBook.{fresh_legal_station}
use Rattle.definition.proofs.Laws.Twins.KeptLegal.{call_kept, station_after, legal_after, register_after}
use Rattle.definition.proofs.Laws.Twins.ClaimHolds.{step_legal}
use Rattle.definition.proofs.Laws.Table.Computed.{keyed, parsed, performed, written}
use Rattle.definition.proofs.Laws.Table.Shown.{register, ample, replies_to, left_from, offsets}

-- ---- that calls are bytes, by a test

unfoldable pub are_octets : Bytes → Bool
are_octets [] = true
are_octets (b ∷ s) = ltb b 256 && are_octets s

pub octets : (s : Bytes) → T (are_octets s) → Octets s
unfolding are_octets
octets [] h i = omega arith
octets (b ∷ s) h zero = ltb→lt b 256 (both_left (ltb b 256) (are_octets s) h)
octets (b ∷ s) h (suc i) = octets s (both_right (ltb b 256) (are_octets s) h) i

unfoldable pub all_octets : List (Bytes × ℕ) → Bool
unfolding are_octets
all_octets [] = true
all_octets (p ∷ l) = are_octets p.0 && all_octets l

-- ---- from station to station

unfoldable pub replies : Station → List (Bytes × ℕ) → List Reply
replies s [] = []
replies s (p ∷ l) =
    let o = perform (parse_call p.0) p.1 s in
    reply_of (encode s) o ∷ replies (station_after s o) l

-- the station that calls leave
unfoldable pub station_behind : Station → List (Bytes × ℕ) → Station
station_behind s [] = s
station_behind s (p ∷ l) = station_behind (station_after s (perform (parse_call p.0) p.1 s)) l

next_legal : (p : Bytes × ℕ) (l : List (Bytes × ℕ)) (s : Station) → LegalStation s → T (all_octets (p ∷ l)) → LegalStation (station_after s (perform (parse_call p.0) p.1 s))
unfolding all_octets
next_legal p l s h t = legal_after h (call_kept p.0 p.1 s (octets p.0 (both_left (are_octets p.0) (all_octets l) t)) h)

pub run_legal : (l : List (Bytes × ℕ)) (s : Station) → LegalStation s → T (all_octets l) → run l (encode s) ≡ replies s l
unfolding run replies all_octets
run_legal [] s h t = refl
run_legal (p ∷ l) s h t =
    let o = perform (parse_call p.0) p.1 s in
    rw (step_legal (encode s) s p.0 p.1 h refl, register_after s o)
    (ap (◌∷◌ (reply_of (encode s) o)) (run_legal l (station_after s o) (next_legal p l s h t) (both_right (are_octets p.0) (all_octets l) t)))

-- it is legal, and the register that they leave is its bytes
pub left_legal : (l : List (Bytes × ℕ)) (s : Station) → LegalStation s → T (all_octets l) →
    LegalStation (station_behind s l) × (left_from (encode s) (run l (encode s)) ≡ encode (station_behind s l))
unfolding run station_behind all_octets
left_legal [] s h t = (h, refl)
left_legal (p ∷ l) s h t =
    let o = perform (parse_call p.0) p.1 s in
    rw (step_legal (encode s) s p.0 p.1 h refl, register_after s o) (left_legal l (station_after s o) (next_legal p l s h t) (both_right (are_octets p.0) (all_octets l) t))

-- ---- the table's calls

pub register_legal : LegalStation (fresh 2 3 1)
register_legal = fresh_legal_station 2 3 1 (omega arith) (omega arith) (omega arith)

-- the replies to them, opened whole
unfoldable pub computed : List (Bytes × ℕ) → List Reply
unfolding replies fresh up_from keyed parsed performed written offsets
computed l = replies (fresh 2 3 1) l

-- the station that they leave, opened too
unfoldable pub station_left : List (Bytes × ℕ) → Station
unfolding station_behind fresh up_from keyed parsed performed
station_left l = station_behind (fresh 2 3 1) l

-- what is read of the replies may be read of those that stations give
pub by_stations_of : {A : Type 0} (read : List Reply → A) (l : List (Bytes × ℕ)) {x : A} → T (all_octets l) → read (computed l) ≡ x → read (run l register) ≡ x
unfolding computed
by_stations_of read l t e = ap read (run_legal l (fresh 2 3 1) register_legal t) ∙ e

pub by_stations : {A : Type 0} (read : List Reply → A) (l : List Bytes) {x : A} → T (all_octets (map ample l)) → read (computed (map ample l)) ≡ x → read (replies_to l) ≡ x
unfolding replies_to
by_stations read l t e = by_stations_of read (map ample l) t e
