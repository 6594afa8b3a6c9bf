-- What the definition runs, as calls that were made: so the claims on lists of calls speak of every list. For YearlyBalance and WrongSeverity.
use Rattle.std.specs.Prelude.{ℕ, ◌≡◌, refl, List, [], ◌∷◌, map, T, replicate}
use Rattle.std.proofs.Common.{ap₂}
use Rattle.std.proofs.lemmas.List.{length-replicate}
use Rattle.octets.specs.Bytes.{Bytes, splice}
use Rattle.octets.specs.BoolLaws.{both_left, both_right}
use Rattle.definition.specs.Lists.{Reply, step_of, run}
use Rattle.definition.specs.Claim.{Made, Trace, asked, AllOctets}
use Rattle.definition.proofs.Laws.Table.Stations.{are_octets, octets, all_octets}

-- calls as they are made, on answer slices of ones: what a refusal leaves there looks like an answer Raised
abbrev made_of : Bytes × ℕ → Reply → Made
made_of p r =
    let o : Bytes = replicate p.1 1 in
    record { call = p.0; former = o; number = r.number; length = r.length; answer = splice o 0 r.answer; register = r.register }

abbrev pub mades_of : List (Bytes × ℕ) → List Reply → List Made
mades_of [] q = []
mades_of (p ∷ l) [] = []
mades_of (p ∷ l) (r ∷ q) = made_of p r ∷ mades_of l q

-- each was made on the register that the one before left, and was asked for
pub run_trace : (l : List (Bytes × ℕ)) (b : Bytes) → Trace b (mades_of l (run l b))
unfolding run
run_trace [] b = tt
run_trace (p ∷ l) b = (
  rw length-replicate (record { number_is = refl; length_is = refl; answer_is = refl; register_is = refl }),
  run_trace l (step_of b p.0 p.1).register,
)

pub run_octets : (l : List (Bytes × ℕ)) (b : Bytes) → T (all_octets l) → AllOctets (mades_of l (run l b))
unfolding run all_octets
run_octets [] b t = tt
run_octets (p ∷ l) b t =
    (octets p.0 (both_left (are_octets p.0) (all_octets l) t), run_octets l (step_of b p.0 p.1).register (both_right (are_octets p.0) (all_octets l) t))

pub run_asked : (l : List (Bytes × ℕ)) (b : Bytes) → map asked (mades_of l (run l b)) ≡ l
unfolding run
run_asked [] b = refl
run_asked (p ∷ l) b = ap₂ ◌∷◌ (λ i. (p.0, length-replicate {A = ℕ} p.1 1 i)) (run_asked l (step_of b p.0 p.1).register)
