-- M-111: the four figures of the smallest lists, by computation: what counts, and what does not. And the balance speaks of every list of calls that
-- the definition runs.
use Rattle.std.specs.Prelude.{ℕ, ◌≡◌, refl, List, [], ◌∷◌, map, T}
use Rattle.octets.specs.Bytes.{Bytes, splice}
use Rattle.definition.specs.Reports.{summary}
use Rattle.definition.specs.Lists.{Reply, run}
use Rattle.definition.specs.Claim.{Made, Trace, AllOctets}
use Rattle.definition.specs.Balance.{raised, cleared, expired, Place, called, sum, active_length, Course, last_left}
use Rattle.definition.proofs.Laws.Table.Calls.{byte, raise, clear, expire}
use Rattle.definition.proofs.Laws.Table.Shown.{register, ample}
use Rattle.definition.proofs.Laws.Table.Stations.{all_octets, computed, by_stations_of}
use Rattle.definition.proofs.Laws.Table.RunMade.{mades_of, run_trace, run_octets}

-- ---- the four figures: "answers Raised = active length + answers Cleared + the sum of the numbers that expire calls gave"

abbrev places_of : List (Bytes × ℕ) → List Reply → List Place
places_of l q = map called (mades_of l q)

abbrev figures_in : List (Bytes × ℕ) → List Reply → ℕ × ℕ × ℕ × ℕ
figures_in l q =
    let c = places_of l q in
    (sum raised c, active_length (last_left register c), sum cleared c, sum expired c)

unfoldable pub figures_of : List (Bytes × ℕ) → ℕ × ℕ × ℕ × ℕ
figures_of l = figures_in l (run l register)

pub record SmallestLists : Type 0 where
  -- Updated is not Raised
  pub updated : figures_of (ample (raise 0 "a" "a") ∷ ample (raise 1 "a" "a") ∷ []) ≡ (1, 1, 0, 0)
  -- at the limit of two a third key is not Raised, and code 5 gives that limit as its number
  pub exceeded : figures_of (ample (raise 0 "a" "a") ∷ ample (raise 0 "b" "b") ∷ ample (raise 0 "c" "c") ∷ []) ≡ (2, 2, 0, 0)
  -- operation 11 gives the active length as its number
  pub summed : figures_of (ample (raise 0 "a" "a") ∷ ample (byte 11) ∷ []) ≡ (1, 1, 0, 0)
  -- the second clear finds nothing: code 4
  pub cleared : figures_of (ample (raise 0 "a" "a") ∷ ample (clear 1 "a") ∷ ample (clear 2 "a") ∷ []) ≡ (1, 0, 1, 0)
  -- on a slice of 1,551 bytes an expiry is refused: 30
  pub expired : figures_of (ample (raise 0 "a" "a") ∷ (expire 1, 1551) ∷ ample (expire 1) ∷ []) ≡ (1, 0, 0, 1)

computes : (l : List (Bytes × ℕ)) {x : ℕ × ℕ × ℕ × ℕ} → T (all_octets l) → figures_in l (computed l) ≡ x → figures_of l ≡ x
unfolding figures_of
computes l = by_stations_of (figures_in l) l

pub smallest_lists : SmallestLists
unfolding all_octets computed splice summary
smallest_lists =
    record {
      updated = computes _ tt refl;
      exceeded = computes _ tt refl;
      summed = computes _ tt refl;
      cleared = computes _ tt refl;
      expired = computes _ tt refl;
    }

-- ---- every list that the definition runs is such a list

course : (b : Bytes) (l : List Made) → AllOctets l → Trace b l → Course b (map called l)
course b [] o t = tt
course b (m ∷ l) o t = (o.0, t.0, course m.register l o.1 t.1)

pub run_course : (l : List (Bytes × ℕ)) (b : Bytes) → T (all_octets l) → Course b (places_of l (run l b))
run_course l b t = course b (mades_of l (run l b)) (run_octets l b t) (run_trace l b)
