-- The walks of a table: along the first places, whose alarms are added to it, and along those behind, which are counted in its rows.
use Prim.Native.Nat.{ℕ, ◌+◌, ◌≤◌, ◌<◌}
use Rattle.std.specs.Prelude.{◌≡◌, T, length, drop, get_or, set}
use Rattle.std.proofs.Math.Path.{refl, sym, ap}
use Rattle.std.proofs.Common.{◌∙◌, arith, take_all, take_at}
use mathlib.Core.List.{List, [], ◌∷◌}
use Rattle.std.proofs.Math.Decide.{ℕ_discrete}
use Rattle.std.proofs.Math.ListN.{take}
use Rattle.octets.specs.Bytes.{Bytes}
use Rattle.definition.specs.Answer.{Count}
use Rattle.definition.specs.Reports.{Rating, rating, firsts_from, tally}
use Rattle.definition.specs.Sound.{sound}
use Rattle.history.specs.Walk.{records_on, AheadAt}
use Rattle.history.specs.WalkLaws.{reached_fits, reached_most}
use Rattle.history.specs.PlaceLaws.{ahead_further, ahead_last, ahead_field, ahead_none}
use Rattle.metrics.specs.Meaning.{Fits, AtPlace, ratings, rating_at, counted, most_rows, rows, AllSmall, RowOf, Table, CountedIn, Noted, Collected, Tallied}
use Rattle.metrics.specs.TallyLaws.{adding, adding_all, tally_place, tally_rest, first_rows}
use Rattle.metrics.specs.RowLaws.{table_many, table_counted, table_kept, table_new, rows_new, rows_counted, rows_kept, ahead_place}

-- ---- the alarms of the first places are added

-- the rows are the tally of the k places passed; the records in l are still to come
pub record Collecting (b : Bytes) (k m : ℕ) (is ns l : List ℕ) : Type 0 where
  pub ahead : AheadAt b 0 k l
  pub table : Table b k m is ns
  pub rows_are : rows b m is ns ≡ tally (take k (ratings b))

pub collecting_first : {b : Bytes} {l : List ℕ} (is ns : List ℕ) → T (sound b) → l ≡ records_on 0 b → length is ≡ most_rows → length ns ≡ most_rows → Collecting b 0 0 is ns l
unfolding rows tally firsts_from
collecting_first is ns h e hi hn = record {
  ahead = record { whole = h; which = omega arith; is = e };
  table = record { room = omega arith; fit = λ j h. absurd (omega arith); records = hi; amounts = hn; small = λ j h. absurd (omega arith) };
  rows_are = refl;
}

module _ {b : Bytes} {k m : ℕ} {is ns l : List ℕ} (w : Collecting b k m is ns l) where
  module _ {i : ℕ} {rest : List ℕ} (here : l ≡ i ∷ rest) where
    pub collecting_place : AtPlace b k i
    collecting_place = ahead_place w.ahead here

    pub collecting_fits : Fits b i
    collecting_fits = reached_fits collecting_place.reached collecting_place.within

    added : adding (rows b m is ns) (rating_at b i) ≡ tally (take (k + 1) (ratings b))
    added = ap (λ (t : List Count). adding t (rating_at b i)) w.rows_are ∙ tally_place k (ratings b) (rating_at b i) (ahead_field w.ahead here rating)

    pub collecting_small : AllSmall m ns
    collecting_small j h = omega (arith, w.table.small j h, reached_most collecting_place.reached, collecting_place.within)

    -- the rows have no room for the next
    pub collecting_at : Collected b k i m is ns
    collecting_at = record { reached = collecting_place.reached; table = w.table; rows_are = w.rows_are }

    pub collecting_next : {m' : ℕ} {is' ns' : List ℕ} → Noted b i m is ns m' is' ns' → Collecting b (k + 1) m' is' ns' rest
    collecting_next t = elim (ℕ_discrete t.row m) [
      | yes y ↦
          let c = t.new (omega (arith, y)) in
          let h : m < most_rows = omega (arith, y, t.room) in
          rw (c.0, c.1, c.2) record {
            ahead = ahead_further w.ahead here;
            table = table_new w.table i collecting_fits h;
            rows_are = rows_new w.table i h ∙ sym (rows_kept w.table (rating_at b i) t.found (omega (arith, y))) ∙ added;
          }
      | no y ↦
          let h : t.row < m = omega (arith, y, t.found.within) in
          let c = t.counted h in
          rw (c.0, c.1, c.2) record {
            ahead = ahead_further w.ahead here;
            table = table_counted w.table t.row h;
            rows_are = rows_counted w.table (rating_at b i) t.found h ∙ added;
          }
    ]

  pub collecting_all : l ≡ [] → Collected b k 0 m is ns
  collecting_all end = record { reached = ahead_last w.ahead end; table = w.table; rows_are = w.rows_are }

-- ---- the alarms behind are counted in their rows

-- k places are passed, and the records in l are still to come; with the rest added, the rows are the first of the tally
pub record Counting (b : Bytes) (m : ℕ) (is ns l : List ℕ) : Type 0 where
  pub passed : ℕ
  pub ahead : AheadAt b 0 passed l
  pub table : Table b passed m is ns
  pub rest : take m (adding_all (rows b m is ns) (drop passed (ratings b))) ≡ take m (tally (ratings b))

pub counting_none : {b : Bytes} {k at m : ℕ} {is ns l : List ℕ} → Collected b k at m is ns → AheadAt b 0 k l → Counting b m is ns l
counting_none {b} {k} {at} {m} w a = record {
  passed = k;
  ahead = a;
  table = w.table;
  rest = ap (λ (t : List Count). take m (adding_all t (drop k (ratings b)))) w.rows_are ∙ ap (take m) (tally_rest k (ratings b));
}

module _ {b : Bytes} {m : ℕ} {is ns l : List ℕ} (w : Counting b m is ns l) where
  abbrev k : ℕ
  k = w.passed

  module _ {i : ℕ} {rest : List ℕ} (here : l ≡ i ∷ rest) where
    counting_place : AtPlace b k i
    counting_place = ahead_place w.ahead here

    pub counting_fits : Fits b i
    counting_fits = reached_fits counting_place.reached counting_place.within

    pub counting_small : AllSmall m ns
    counting_small j h = omega (arith, w.table.small j h, reached_most counting_place.reached, counting_place.within)

    module _ {j : ℕ} (r : RowOf b is m (rating_at b i) j) where
      -- where the rows are the first m with the alarm added
      on : (ns' : List ℕ) → Table b (k + 1) m is ns' → rows b m is ns' ≡ take m (adding (rows b m is ns) (rating_at b i)) → Counting b m is ns' rest
      unfolding adding_all
      on ns' t f = record {
        passed = k + 1;
        ahead = ahead_further w.ahead here;
        table = t;
        rest =
            ap (λ (t : List Count). take m (adding_all t (drop (k + 1) (ratings b)))) f ∙ first_rows m (adding (rows b m is ns) (rating_at b i)) (drop (k + 1) (ratings b))
            ∙ ap (λ (d : List Rating). take m (adding_all (rows b m is ns) d)) (sym (ahead_field w.ahead here rating)) ∙ w.rest;
      }

      pub counting_next : {ns' : List ℕ} → CountedIn ns m j ns' → Counting b m is ns' rest
      counting_next t = elim (ℕ_discrete j m) [
        | yes y ↦
            let none : m ≤ j = omega (arith, y) in
            rw (t.none none) (on ns (table_kept w.table)
            (sym (ap (take m) (rows_kept w.table (rating_at b i) r none) ∙ take_at (rows b m is ns) (counted (rating_at b i) 1 ∷ []) m (table_many w.table))))
        | no y ↦
            let h : j < m = omega (arith, y, r.within) in
            let more = table_counted w.table j h in
            rw (t.row h) (on (set ns j (get_or ns j 0 + 1)) more
            (sym (take_all m (rows b m is (set ns j (get_or ns j 0 + 1))) (omega (arith, table_many more))) ∙ ap (take m) (rows_counted w.table (rating_at b i) r h)))
      ]

  pub counting_all : l ≡ [] → Tallied b m is ns
  unfolding adding_all
  counting_all end = record {
    places = k;
    table = w.table;
    rows_are =
        sym (take_all m (rows b m is ns) (omega (arith, table_many w.table))) ∙ ap (λ (d : List Rating). take m (adding_all (rows b m is ns) d)) (sym (ahead_none w.ahead rating end))
        ∙ w.rest;
  }
