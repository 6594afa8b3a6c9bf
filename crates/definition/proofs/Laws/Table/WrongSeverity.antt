-- M-113, by computation: what one wrong severity changes, and why policy calls are left aside. And the reach speaks of every two such lists that the
-- definition runs.
use Rattle.std.specs.Prelude.{ℕ, ◌≤◌, ◌≡◌, refl, List, [], ◌∷◌, T}
use Rattle.std.proofs.Common.{ap, arith}
use Rattle.octets.specs.Bytes.{Bytes, ascii, at32}
use Rattle.definition.specs.Parse.{severity_or_all}
use Rattle.definition.specs.Answer.{alarm_records}
use Rattle.definition.specs.Reports.{active_list}
use Rattle.definition.specs.Lists.{run}
use Rattle.definition.specs.Twins.{AtEach}
use Rattle.definition.specs.Claim.{Fresh, Made}
use Rattle.definition.specs.Reach.{before_severity, SeverityApart, OneApart, MadeApart, BoundedAfter}
use Rattle.definition.proofs.Laws.Table.Calls.{sent_before_severity, sent_behind_severity, raise_as, suppress_by_policy, expire}
use Rattle.definition.proofs.Laws.Table.Shown.{register, ample, replies_to, last_count, left, answered, leaving}
use Rattle.definition.proofs.Laws.Table.Computed.{parsed}
use Rattle.definition.proofs.Laws.Table.Stations.{all_octets, computed, by_stations}
use Rattle.definition.proofs.Laws.Table.Marked.{marked}
use Rattle.definition.proofs.Laws.Table.RunMade.{mades_of, run_trace, run_octets, run_asked}

-- in the header active_length 16, history_length 24
abbrev held : Bytes → ℕ × ℕ
held b = (at32 b 16, at32 b 24)

-- how many active alarms operation 8 lists for the severity u, after a raise with the severity v
abbrev listed : ℕ → ℕ → ℕ
listed u v = last_count (replies_to (raise_as v ∷ (8 ∷ u ∷ []) ∷ []))

pub record WhatDiffers : Type 0 where
  -- minor for major: each of the two counts by one
  pub minor : (listed 3 3 ≡ 1) × (listed 3 4 ≡ 0)
  pub major : (listed 4 3 ≡ 0) × (listed 4 4 ≡ 1)
  -- history's sameness looks at the severity: major in the second of three raises, and one entry more
  pub history :
      (held (left (replies_to (raise_as 3 ∷ raise_as 4 ∷ raise_as 3 ∷ []))) ≡ (1, 3))
      × (held (left (replies_to (raise_as 3 ∷ raise_as 3 ∷ raise_as 3 ∷ []))) ≡ (1, 2))
  -- "a critical severity may stop a suppression": then updated_at stays as it was, and the alarm expires
  pub policy :
      (leaving held (replies_to (raise_as 5 ∷ suppress_by_policy 2 "a" 1 ∷ expire 1 ∷ [])) ≡ (answered 1 ∷ answered 8 ∷ answered 11 ∷ [], (0, 2)))
      × (leaving held (replies_to (raise_as 3 ∷ suppress_by_policy 2 "a" 1 ∷ expire 1 ∷ [])) ≡ (answered 1 ∷ answered 6 ∷ answered 11 ∷ [], (1, 2)))

pub what_differs : WhatDiffers
unfolding all_octets computed severity_or_all active_list alarm_records
what_differs =
    record {
      minor = (by_stations last_count _ tt refl, by_stations last_count _ tt refl);
      major = (by_stations last_count _ tt refl, by_stations last_count _ tt refl);
      history = (by_stations (λ q. held (left q)) _ tt refl, by_stations (λ q. held (left q)) _ tt refl);
      policy = (by_stations (leaving held) _ tt refl, by_stations (leaving held) _ tt refl);
    }

-- ---- the reach speaks of every two such lists that the definition runs

pub run_apart : (v v' : ℕ) (l l' : List (Bytes × ℕ)) (b : Bytes) → T (all_octets l) → T (all_octets l') → OneApart v v' l l' → MadeApart v v' b b (mades_of l (run l b)) (mades_of l' (run l' b))
run_apart v v' l l' b t t' d =
    record {
      made = run_trace l b;
      made' = run_trace l' b;
      octets = run_octets l b t;
      octets' = run_octets l' b t';
      apart = rw (run_asked l b, run_asked l' b) d;
    }

-- two raises of the table that are such
raises_apart : (v v' : ℕ) → v ≤ 5 → v' ≤ 5 → SeverityApart v v' (raise_as v) (raise_as v')
unfolding parsed before_severity
raises_apart v v' h h' =
    record {
      before = sent_before_severity 0 "a";
      after = sent_behind_severity;
      is = refl;
      is' = refl;
      fields = (0, ascii "a", ascii "t");
      read = refl;
      legal = h;
      legal' = h';
    }

-- ---- with a policy call behind the raise it is false, already from fresh registers

abbrev suppressed : ℕ → List (Bytes × ℕ)
suppressed v = ample (raise_as v) ∷ ample (suppress_by_policy 2 "a" 1) ∷ ample (expire 1) ∷ []

pub policy_needed :
    ((a h e v v' : ℕ) (b b' : Bytes) (l l' : List Made) → Fresh a h e b → Fresh a h e b' → MadeApart v v' b b' l l' → AtEach (BoundedAfter v v') l l') → ⊥
unfolding all_octets computed replies_to run
policy_needed f =
    let d : OneApart 5 3 (suppressed 5) (suppressed 3) = record {
      earlier = [];
      later = ample (suppress_by_policy 2 "a" 1) ∷ ample (expire 1) ∷ [];
      call = raise_as 5;
      call' = raise_as 3;
      answer_length = 65536;
      is = refl;
      is' = refl;
      apart = raises_apart 5 3 (omega arith) (omega arith);
    } in
    let r = f 2 3 1 5 3 register register _ _ marked.opening marked.opening (run_apart 5 3 (suppressed 5) (suppressed 3) register tt tt d) in
    omega (arith, r.1.1.0.registers.lengths, ap (λ x. x.1.0) what_differs.policy.0, ap (λ x. x.1.0) what_differs.policy.1)
