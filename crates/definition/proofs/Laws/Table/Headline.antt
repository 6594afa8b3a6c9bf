-- M-103: what a summary says behind the smallest lists of calls, by computation: which alarms its two bytes leave aside, and that its number,
-- and the items of operations 8 and 10, still include them.
use Rattle.std.specs.Prelude.{ℕ, ◌≡◌, refl, List, [], ◌∷◌, ◌++◌, map, T, get_or}
use Rattle.octets.specs.Bytes.{Bytes, number_at}
use Rattle.definition.specs.Parse.{severity_or_all}
use Rattle.definition.specs.Answer.{alarm_records, count_entries}
use Rattle.definition.specs.Reports.{active_list, firsts_from, tally, counts, worst, worst_impact, summary}
use Rattle.definition.specs.Lists.{Reply}
use Rattle.definition.proofs.Laws.Table.Calls.{byte, raise, raise_as, acknowledge, suppress}
use Rattle.definition.proofs.Laws.Table.Shown.{ample, replies_to, last_answer, last_count}
use Rattle.definition.proofs.Laws.Table.Stations.{all_octets, computed, by_stations}

-- calls, and operation 11 behind them
abbrev then_summary : List Bytes → List Bytes
then_summary l = l ++ (byte 11 ∷ [])

-- of the summary: the number, and the two bytes behind the head of 16, "worst severity .., worst `readiness_impact`"
abbrev said : List Reply → ℕ × ℕ × ℕ
said q =
    let a = last_answer q in
    (number_at 8 a 8, get_or a 16 0, get_or a 17 0)

unfoldable pub summary_behind : List Bytes → ℕ × ℕ × ℕ
summary_behind l = said (replies_to (then_summary l))

pub record Headlines : Type 0 where
  -- "worst severity and worst readiness leave suppressed alarms aside": both, of a major alarm; "the active length still include[s] them"
  pub suppressed : summary_behind (raise_as 4 ∷ suppress "a" 1 ∷ []) ≡ (1, 255, 0)
  -- acknowledged ones are none of them
  pub acknowledged : summary_behind (raise_as 4 ∷ acknowledge "a" 1 ∷ []) ≡ (1, 4, 1)
  -- one of two: the other is the worst, also where its severity is 0
  pub one_of_two : summary_behind (raise 0 "a" "a" ∷ raise 0 "b" "b" ∷ suppress "a" 1 ∷ []) ≡ (2, 3, 0)
  pub other_zero : summary_behind (raise 0 "b" "b" ∷ suppress "b" 1 ∷ raise_as 0 ∷ []) ≡ (2, 0, 0)
  -- raised again, and as critical, it stays suppressed
  pub raised_again : summary_behind (raise 0 "a" "a" ∷ suppress "a" 1 ∷ raise_as 5 ∷ []) ≡ (1, 255, 0)
  -- and acknowledged it is back
  pub back : summary_behind (raise 0 "a" "a" ∷ suppress "a" 1 ∷ raise_as 5 ∷ acknowledge "a" 1 ∷ []) ≡ (1, 5, 2)
  -- "Counts .. still include them": operation 10 has an entry; and operation 8 for all severities a record
  pub counted : last_count (replies_to (raise 0 "a" "a" ∷ suppress "a" 1 ∷ byte 10 ∷ [])) ≡ 1
  pub listed : last_count (replies_to (raise 0 "a" "a" ∷ suppress "a" 1 ∷ (8 ∷ 255 ∷ []) ∷ [])) ≡ 1

computes :
    (l : List Bytes) {x : ℕ × ℕ × ℕ} → T (all_octets (map ample (then_summary l))) → said (computed (map ample (then_summary l))) ≡ x → summary_behind l ≡ x
unfolding summary_behind
computes l = by_stations said (then_summary l)

pub headlines : Headlines
unfolding all_octets computed severity_or_all active_list alarm_records summary worst worst_impact counts tally firsts_from count_entries
headlines =
    record {
      suppressed = computes _ tt refl;
      acknowledged = computes _ tt refl;
      one_of_two = computes _ tt refl;
      other_zero = computes _ tt refl;
      raised_again = computes _ tt refl;
      back = computes _ tt refl;
      counted = by_stations last_count _ tt refl;
      listed = by_stations last_count _ tt refl;
    }
