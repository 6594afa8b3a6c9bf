-- Legal stations as propositions, which proofs carry: limits, lengths, each of the records 1, 2, .. on exactly one chain; and legal fields.
use Rattle.std.specs.Prelude.{ℕ, ◌+◌, ◌≤◌, ◌<◌, ◌≡◌, List, [], ◌∷◌, cond, eqb, length}
use Rattle.definition.specs.Chain.{up_from, times}
use Rattle.definition.specs.Station.{Station}
use Rattle.definition.specs.Clauses.LegalBook.{Limit}
use Rattle.definition.specs.Clauses.LegalFields.{LegalFields}

-- how many records there are beside the header
abbrev pub records : Station → ℕ
records s = s.limit_a + s.limit_h + s.limit_e

-- how often i is among some indices
unfoldable pub times_in : ℕ → List ℕ → ℕ
times_in i [] = 0
times_in i (j ∷ l) = cond (eqb j i) 1 0 + times_in i l

-- all but what the records hold
pub record LegalChains (s : Station) : Type 0 where
  pub limits : Limit s.limit_a × Limit s.limit_h × Limit s.limit_e
  pub active_fits : length s.active ≤ s.limit_a
  pub history_fits : length s.history ≤ s.limit_h
  pub audit_fits : length s.audit ≤ s.limit_e
  pub filled : length s.active + length s.history + length s.audit + length s.free ≡ records s
  -- each of 1, 2, .. once, and nothing else
  pub once : (i : ℕ) → times i s.active + times i s.history + times i s.audit + times_in i s.free ≡ times_in i (up_from 1 (records s))
  pub counters : (s.successes < 18446744073709551616) × (s.failures < 18446744073709551616)

pub record LegalStation (s : Station) : Type 0 where
  pub chains : LegalChains s
  pub fields : LegalFields s
