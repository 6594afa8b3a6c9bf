-- What the code says of the active chain: its headline; its ratings, where they appear first, a table of them, and the entries in the answer.
use Rattle.std.specs.Prelude.{ℕ, zero, suc, ◌+◌, ◌*◌, ◌≤◌, ◌<◌, ◌≡◌, List, [], ◌∷◌, ◌++◌, map, Bool, true, false, cond, eqb, length, take, drop, get_or, set, Option, None, Some}
use Rattle.octets.specs.Bytes.{Bytes, at32, be32}
use Rattle.definition.specs.Chain.{those}
use Rattle.definition.specs.Key.{string}
use Rattle.definition.specs.Answer.{Count, count_entries}
use Rattle.definition.specs.Reports.{Rating, rating, same_rating, count_of, firsts_from, tally}
use Rattle.metrics.specs.declared.table.Row.{Row}
use Rattle.history.specs.Walk.{alarm_at, alarms_on, Reached}

-- ---- the active chain

-- record i lies in the register
abbrev pub Fits : Bytes → ℕ → Type 0
Fits b i = 1536 * i + 1536 ≤ length b

-- it stands at place k of the chain
pub record AtPlace (b : Bytes) (k i : ℕ) : Type 0 where
  pub reached : Reached b 0 (at32 b 16) k i
  pub within : k < at32 b 16

-- ---- the headline

-- the severity v of an alarm in state x, and none where that is 3, suppressed
abbrev pub shown : ℕ → ℕ → Option ℕ
shown x v = cond (eqb x 3) None (Some v)

-- ---- ratings

-- those of the active alarms, in chain order
abbrev pub ratings : Bytes → List Rating
ratings b = map rating (alarms_on 0 b)

-- that of record i
abbrev pub rating_at : Bytes → ℕ → Rating
rating_at b i = rating (alarm_at b i)

-- ---- first appearances

abbrev pub firsts : Bytes → List Rating
firsts b = firsts_from [] (ratings b)

-- those at place k and behind it
abbrev pub firsts_at : ℕ → List Rating → List Rating
firsts_at k l = firsts_from (take k l) (drop k l)

abbrev pub is_new : Rating → List Rating → Bool
is_new q seen = eqb (length (those (same_rating q) seen)) 0

-- whether the rating of record i, at place k, stands at no place before
abbrev pub is_first : Bytes → ℕ → ℕ → Bool
is_first b k i = is_new (rating_at b i) (take k (ratings b))

-- ---- a table: records `is`, amounts `ns`; its first m rows

abbrev pub records : List Row → List ℕ
records rs = map (λ (r : Row). r.record) rs

abbrev pub amounts : List Row → List ℕ
amounts rs = map (λ (r : Row). r.amount) rs

-- the most that it has room for
abbrev pub most_rows : ℕ
most_rows = 1024

abbrev pub counted : Rating → ℕ → Count
counted q n = record { severity = q.0; amount = n; cause = q.1 }

unfoldable pub rows : Bytes → ℕ → List ℕ → List ℕ → List Count
rows b zero is ns = []
rows b (suc m) [] ns = []
rows b (suc m) (i ∷ is) [] = []
rows b (suc m) (i ∷ is) (n ∷ ns) = counted (rating_at b i) n ∷ rows b m is ns

abbrev pub row_ratings : Bytes → ℕ → List ℕ → List Rating
row_ratings b m is = map (rating_at b) (take m is)

-- each of their records lies in the register
abbrev pub AllFit : Bytes → ℕ → List ℕ → Type 0
AllFit b m is = (j : ℕ) → j < m → Fits b (get_or is j 0)

-- one more in each of their amounts still is a number of 32 bits
abbrev pub AllSmall : ℕ → List ℕ → Type 0
AllSmall m ns = (j : ℕ) → j < m → get_or ns j 0 < 4294967295

-- a table made of k places, so that each of its amounts is k at most
pub record Table (b : Bytes) (k m : ℕ) (is ns : List ℕ) : Type 0 where
  pub room : m ≤ most_rows
  pub fit : AllFit b m is
  pub records : length is ≡ most_rows
  pub amounts : length ns ≡ most_rows
  pub small : (j : ℕ) → j < m → get_or ns j 0 ≤ k

-- the row of a rating among the first m: none before r has it, and r has it unless it is m
pub record RowOf (b : Bytes) (is : List ℕ) (m : ℕ) (q : Rating) (r : ℕ) : Type 0 where
  pub within : r ≤ m
  pub before : (j : ℕ) → j < r → same_rating (rating_at b (get_or is j 0)) q ≡ false
  pub here : r < m → same_rating (rating_at b (get_or is r 0)) q ≡ true

-- row j's amount is one more, where j is one of the rows
pub record CountedIn (ns : List ℕ) (m j : ℕ) (ns' : List ℕ) : Type 0 where
  pub row : j < m → ns' ≡ set ns j (get_or ns j 0 + 1)
  pub none : m ≤ j → ns' ≡ ns

-- of the row of record i's rating, which is row m where there is none: its amount is one more, or record i becomes row m, where there is room; then there are m' rows
pub record Noted (b : Bytes) (i m : ℕ) (is ns : List ℕ) (m' : ℕ) (is' ns' : List ℕ) : Type 0 where
  pub row : ℕ
  pub found : RowOf b is m (rating_at b i) row
  pub room : row < most_rows
  pub counted : row < m → (m' ≡ m) × (is' ≡ is) × (ns' ≡ set ns row (get_or ns row 0 + 1))
  pub new : m ≤ row → (m' ≡ m + 1) × (is' ≡ set is m i) × (ns' ≡ set ns m 1)

-- the rows are the tally of the places before p, at which record `at` stands
pub record Collected (b : Bytes) (p at m : ℕ) (is ns : List ℕ) : Type 0 where
  pub reached : Reached b 0 (at32 b 16) p at
  pub table : Table b p m is ns
  pub rows_are : rows b m is ns ≡ tally (take p (ratings b))

-- the rows have the ratings that appear first at the places before p, at which record `at` stands
pub record Covers (b : Bytes) (p at m : ℕ) (is : List ℕ) : Type 0 where
  pub reached : Reached b 0 (at32 b 16) p at
  pub room : m ≤ most_rows
  pub fit : AllFit b m is
  pub records : length is ≡ most_rows
  pub firsts_are : row_ratings b m is ≡ firsts_from [] (take p (ratings b))

-- the rows, made of so many places, are the first of the whole tally
pub record Tallied (b : Bytes) (m : ℕ) (is ns : List ℕ) : Type 0 where
  pub places : ℕ
  pub table : Table b places m is ns
  pub rows_are : rows b m is ns ≡ take m (tally (ratings b))

-- ---- the answer

-- the entry of a row
abbrev pub entry_bytes : Count → Bytes
entry_bytes n = n.severity ∷ (be32 n.amount ++ string n.cause)

-- how long the entries of ratings are
unfoldable pub sizes : List Rating → ℕ
sizes [] = 0
sizes (q ∷ l) = (9 + length q.1) + sizes l

abbrev pub size_if : Bool → Rating → ℕ
size_if first q = cond first (9 + length q.1) 0

-- all entries; those of a table's rows; those of the ratings that appear first at place k or behind it
abbrev pub listing : Bytes → Bytes
listing b = count_entries (tally (ratings b))

abbrev pub row_entries : Bytes → ℕ → List ℕ → List ℕ → Bytes
row_entries b m is ns = count_entries (rows b m is ns)

unfoldable pub listing_from : ℕ → Bytes → Bytes
listing_from k b = count_entries (map (count_of (ratings b)) (firsts_at k (ratings b)))

-- the entry of record i's alarm, nothing where it is not the first of its rating
abbrev pub entry_if : Bool → Bytes → ℕ → Bytes
entry_if first b i = cond first (entry_bytes (count_of (ratings b) (rating_at b i))) []
