-- The entries: how long they are, and how they are written one behind the other, of the rows and then of the places behind.
use Rattle.std.specs.Prelude.{ℕ, zero, suc, ◌+◌, ◌*◌, ◌≤◌, ◌<◌, ◌≡◌, Bool, cond, take, drop, get_or}
use Rattle.std.proofs.Math.Path.{refl, ap}
use Rattle.std.proofs.Common.{sym, ◌∙◌, add-one, length-append, length-take, length-drop, drop_of_length-le, take_at}
use mathlib.Core.List.{List, [], ◌∷◌, ◌++◌, map, append_assoc}
use Rattle.std.proofs.Math.Bool.{true, false}
use native.Mathlib.Omega.{arith}
use Rattle.std.proofs.Math.ListN.{length}
use Rattle.octets.specs.Bytes.{Bytes, at32, be32, value}
use Rattle.octets.specs.NumberLaws.{length_be32}
use Rattle.octets.specs.Put.{Put}
use Rattle.definition.specs.Key.{string}
use Rattle.definition.proofs.Laws.Text.Key.{length_string}
use Rattle.definition.proofs.Laws.Book.Contents.{length_map, map_append}
use Rattle.definition.specs.Slot.{cut}
use Rattle.definition.specs.Record.{read_alarm}
use Rattle.definition.specs.Answer.{Count, count_entries}
use Rattle.definition.specs.Book.{record_of}
use Rattle.definition.specs.Reports.{Rating, rating, count_of, firsts_from, tally}
use Rattle.answers.specs.EntryLaws.{Begun, begun_none, begun_length, begun_fits, begun_next, begun_all}
use Rattle.history.specs.Walk.{alarm_at, AheadAt}
use Rattle.history.specs.WalkLaws.{reached_most}
use Rattle.history.specs.PlaceLaws.{ahead_within, ahead_reached, ahead_further, ahead_field, ahead_over}
use Rattle.metrics.specs.Meaning.{ratings, rating_at, firsts, firsts_at, is_first, counted, most_rows, rows, row_ratings, Covers, Tallied, entry_bytes, sizes, size_if, listing, row_entries, listing_from, entry_if}
use Rattle.metrics.specs.FirstLaws.{firsts_split, firsts_next, firsts_end}
use Rattle.metrics.specs.RowLaws.{table_many, table_place, covers_many}

-- ---- how long entries are

length_entry : (c : Count) → length (entry_bytes c) ≡ 9 + length c.cause
length_entry c = omega (arith, length-append (be32 c.amount) (string c.cause), length_be32 c.amount, length_string c.cause)

-- whatever the amounts are
pub length_entries : (s l : List Rating) → length (count_entries (map (count_of s) l)) ≡ sizes l
unfolding count_entries sizes
length_entries s [] = refl
length_entries s (q ∷ l) =
    length-append (entry_bytes (count_of s q)) (count_entries (map (count_of s) l)) ∙ (λ i. length_entry (count_of s q) i + length_entries s l i)

-- a string with its length in a slot of 98 bytes
short : (n : ℕ) (s : Bytes) → length (take n (drop 2 (take 98 s))) ≤ 96
short n s = omega (arith, length-take n (drop 2 (take 98 s)), length-drop 2 (take 98 s), length-take 98 s)

cause_short : (b : Bytes) (i : ℕ) → length (alarm_at b i).about.cause ≤ 96
unfolding read_alarm cut
cause_short b i =
    let s = drop 175 (record_of b i).content in
    short (value (take 2 (take 98 s))) s

sizes_small : (b : Bytes) (is : List ℕ) → sizes (map (rating_at b) is) ≤ 105 * length is
unfolding sizes
sizes_small b [] = omega arith
sizes_small b (i ∷ is) = omega (arith, cause_short b i, sizes_small b is)

-- an entry and its cause s fit
module _ (b : Bytes) (i n at room : ℕ) (s : Bytes) (es : s ≡ (alarm_at b i).about.cause) where
  pub entry_fits : at + length (entry_bytes (counted (rating_at b i) n)) ≤ room → (at + (9 + length s) ≤ room) × (length s < 4294967296)
  entry_fits f = (omega (arith, f, length_entry (counted (rating_at b i) n), ap length es), omega (arith, cause_short b i, ap length es))

-- ---- row by row

module _ (b : Bytes) (m j : ℕ) (is : List ℕ) (hi : m ≤ length is) where
  rating_place : j < m → drop j (row_ratings b m is) ≡ rating_at b (get_or is j 0) ∷ drop (j + 1) (row_ratings b m is)
  rating_place h = place m j is hi h ∙ ap (λ (x : ℕ). rating_at b (get_or is j 0) ∷ drop x (row_ratings b m is)) (sym (add-one j))
    where
      place : (m j : ℕ) (is : List ℕ) → m ≤ length is → j < m → drop j (row_ratings b m is) ≡ rating_at b (get_or is j 0) ∷ drop (suc j) (row_ratings b m is)
      place zero j is hi h = absurd (omega arith)
      place (suc m) j [] hi h = absurd (omega arith)
      place (suc m) zero (i ∷ is) hi h = refl
      place (suc m) (suc j) (i ∷ is) hi h = place m j is (omega arith) (omega arith)

  rating_end : m ≤ j → drop j (row_ratings b m is) ≡ []
  rating_end h = drop_of_length-le (row_ratings b m is) {i = j} (omega (arith, length_map (rating_at b) (take m is), length-take m is))

-- where the entries of the first j rows end
pub record Sized (b : Bytes) (m : ℕ) (is : List ℕ) (j e : ℕ) : Type 0 where
  pub bytes : e + sizes (drop j (row_ratings b m is)) ≡ 16 + sizes (row_ratings b m is)

pub sized_none : {b : Bytes} {m : ℕ} {is : List ℕ} → Sized b m is 0 16
sized_none = record { bytes = refl }

module _ {b : Bytes} {m : ℕ} {is : List ℕ} {j e : ℕ} (hi : m ≤ length is) (w : Sized b m is j e) where
  module _ (s : Bytes) (es : s ≡ (alarm_at b (get_or is j 0)).about.cause) (h : j < m) where
    rest : sizes (drop j (row_ratings b m is)) ≡ (9 + length s) + sizes (drop (j + 1) (row_ratings b m is))
    unfolding sizes
    rest = ap sizes (rating_place b m j is hi h) ∙ ap (λ (x : Bytes). (9 + length x) + sizes (drop (j + 1) (row_ratings b m is))) (sym es)

    pub sized_small : m ≤ most_rows → e + (9 + length s) ≤ 16 + 105 * most_rows
    sized_small hm = omega (arith, w.bytes, rest, sizes_small b (take m is), length-take m is)

    pub sized_next : {x : ℕ} → x ≡ e + (9 + length s) → Sized b m is (j + 1) x
    sized_next ex = record { bytes = omega (arith, ex, w.bytes, rest) }

  pub sized_all : m ≤ j → e ≡ 16 + sizes (row_ratings b m is)
  unfolding sizes
  sized_all h = omega (arith, w.bytes, ap sizes (rating_end b m j is hi h))

-- the entries of the first j rows stand in the answer, which was a and is c, up to place e
pub record Listed (b : Bytes) (m : ℕ) (is ns : List ℕ) (a c : Bytes) (j e : ℕ) : Type 0 where
  pub tallied : Tallied b m is ns
  pub begun : Begun (row_entries b m is ns) (count_entries (drop j (rows b m is ns))) a c e

pub listed_none : {b : Bytes} {m : ℕ} {is ns : List ℕ} (a : Bytes) → Tallied b m is ns → 16 + length (row_entries b m is ns) ≤ length a → Listed b m is ns a a 0 16
listed_none a t h = record { tallied = t; begun = begun_none h }

module _ {b : Bytes} {m : ℕ} {is ns : List ℕ} {a c : Bytes} {j e : ℕ} (w : Listed b m is ns a c j e) where
  module _ (h : j < m) where
    abbrev row : Bytes
    row = entry_bytes (counted (rating_at b (get_or is j 0)) (get_or ns j 0))

    abbrev behind : Bytes
    behind = count_entries (drop (j + 1) (rows b m is ns))

    starts : count_entries (drop j (rows b m is ns)) ≡ row ++ behind
    unfolding count_entries
    starts = ap count_entries (table_place w.tallied.table j h)

    -- the next entry and its cause s fit
    pub listed_fits : (s : Bytes) → s ≡ (alarm_at b (get_or is j 0)).about.cause → (e + (9 + length s) ≤ length c) × (length s < 4294967296)
    listed_fits s es = entry_fits b (get_or is j 0) (get_or ns j 0) e (length c) s es (begun_fits w.begun row behind starts)

    pub listed_next : {d : Bytes} {x : ℕ} → Put c e row x d → Listed b m is ns a d (j + 1) x
    listed_next p = record { tallied = w.tallied; begun = begun_next w.begun row behind starts p }

  pub listed_all : m ≤ j → Put a 16 (row_entries b m is ns) e c
  unfolding count_entries
  listed_all h =
      begun_all w.begun (ap count_entries (drop_of_length-le (rows b m is ns) {i = j} (omega (arith, table_many w.tallied.table))))

-- ---- the places behind, one by one

module _ (b : Bytes) (k at : ℕ) (here : drop k (ratings b) ≡ rating_at b at ∷ drop (k + 1) (ratings b)) where
  abbrev on : List Rating
  on = firsts_at (k + 1) (ratings b)

  abbrev first : Bool
  first = is_first b k at

  next : firsts_at k (ratings b) ≡ cond first (rating_at b at ∷ on) on
  next = firsts_next k (ratings b) (rating_at b at) here

  many_next : (e : ℕ) → cond first (e + 1) e + length on ≡ e + length (firsts_at k (ratings b))
  many_next e = go first ∙ ap (λ (l : List Rating). e + length l) (sym next)
    where
      go : (t : Bool) → cond t (e + 1) e + length on ≡ e + length (cond t (rating_at b at ∷ on) on)
      go true = omega arith
      go false = refl

  size_next : sizes (firsts_at k (ratings b)) ≡ size_if first (rating_at b at) + sizes on
  unfolding sizes
  size_next = ap sizes next ∙ go first
    where
      go : (t : Bool) → sizes (cond t (rating_at b at ∷ on) on) ≡ size_if t (rating_at b at) + sizes on
      go true = refl
      go false = omega arith

  listing_next : listing_from k b ≡ entry_if first b at ++ listing_from (k + 1) b
  unfolding listing_from count_entries
  listing_next = ap (λ (l : List Rating). count_entries (map (count_of (ratings b)) l)) next ∙ go first
    where
      go : (t : Bool) → count_entries (map (count_of (ratings b)) (cond t (rating_at b at ∷ on) on)) ≡ entry_if t b at ++ count_entries (map (count_of (ratings b)) on)
      go true = refl
      go false = refl

size_small : (b : Bytes) (i : ℕ) (t : Bool) → size_if t (rating_at b i) ≤ 105
size_small b i true = omega (arith, cause_short b i)
size_small b i false = omega arith

-- k places are passed, those before p by the rows: e entries, which end at place m of the answer; the records in l are still to come
pub record Measured (b : Bytes) (p k e m : ℕ) (l : List ℕ) : Type 0 where
  pub ahead : AheadAt b 0 k l
  pub passed : p ≤ k
  pub few : e ≤ most_rows + k
  pub small : m ≤ 16 + 105 * (most_rows + k)
  pub amount : e + length (firsts_at k (ratings b)) ≡ length (firsts b)
  pub bytes : m + sizes (firsts_at k (ratings b)) ≡ 16 + sizes (firsts b)

sizes_append : (l m : List Rating) → sizes (l ++ m) ≡ sizes l + sizes m
unfolding sizes
sizes_append [] m = omega arith
sizes_append (q ∷ l) m = omega (arith, sizes_append l m)

-- the rows' are the first
pub measured_rows :
    {b : Bytes} {p at m : ℕ} {is l : List ℕ} → Covers b p at m is → AheadAt b 0 p l → {c e : ℕ} → c ≡ m → e ≡ 16 + sizes (row_ratings b m is) → Measured b p p c e l
measured_rows {b} {p} {at} {m} {is} w a {c} {e} ec ee =
    let split = firsts_split p (ratings b) in
    let f = firsts_from [] (take p (ratings b)) in
    let own : sizes (row_ratings b m is) ≡ sizes f = ap sizes w.firsts_are in
    record {
      ahead = a;
      passed = omega arith;
      few = omega (arith, w.room);
      small = omega (arith, sizes_small b (take m is), length-take m is, w.room);
      amount = omega (arith, ap length split, length-append f (firsts_at p (ratings b)), covers_many w);
      bytes = omega (arith, ap sizes split, sizes_append f (firsts_at p (ratings b)), own);
    }

module _ {b : Bytes} {p k e m : ℕ} {l : List ℕ} (w : Measured b p k e m l) where
  module _ {i : ℕ} {rest : List ℕ} (here : l ≡ i ∷ rest) {t : Bool} (et : t ≡ is_first b k i) {d : ℕ} (ed : d ≡ size_if t (rating_at b i)) where
    -- where the next entry ends
    pub measured_small : m + d ≤ 16 + 105 * (most_rows + 65535)
    measured_small = omega (arith, w.small, size_small b i t, ed, ahead_within w.ahead here, reached_most (ahead_reached w.ahead here))

    pub measured_next : {e' : ℕ} → e' ≡ cond t (e + 1) e → Measured b p (k + 1) e' (m + d) rest
    measured_next {e'} ee =
        let more : e' ≡ cond (is_first b k i) (e + 1) e = rw et at ee in
        let size : d ≡ size_if (is_first b k i) (rating_at b i) = rw et at ed in
        let field = ahead_field w.ahead here rating in
        record {
          ahead = ahead_further w.ahead here;
          passed = omega (arith, w.passed);
          few = rw ee (one t);
          small = omega (arith, w.small, size_small b i t, ed);
          amount = ap (λ (x : ℕ). x + length (firsts_at (k + 1) (ratings b))) more ∙ many_next b k i field e ∙ w.amount;
          bytes = omega (arith, size_next b k i field, w.bytes, size);
        }
      where
        one : (s : Bool) → cond s (e + 1) e ≤ most_rows + (k + 1)
        one true = omega (arith, w.few)
        one false = omega (arith, w.few)

  pub measured_all : at32 b 16 ≤ k → (e ≡ length (firsts b)) × (m ≡ 16 + sizes (firsts b))
  unfolding sizes
  measured_all h =
      let none = firsts_end k (ratings b) (ahead_over w.ahead rating h) in
      (omega (arith, w.amount, ap length none), omega (arith, w.bytes, ap sizes none))

-- ---- the entries, written by a walk

-- k places are passed, those before p by the rows; what stood in the answer when it was d, up to place e, stands there with their entries now that it
-- is c, up to place m; the records in l are still to come
pub record Written (b d c : Bytes) (p k e m : ℕ) (l : List ℕ) : Type 0 where
  pub ahead : AheadAt b 0 k l
  pub passed : p ≤ k
  pub begun : (a : Bytes) → Begun (listing b) (listing_from p b) a d e → Begun (listing b) (listing_from k b) a c m

entries_append : (x y : List Count) → count_entries x ++ count_entries y ≡ count_entries (x ++ y)
unfolding count_entries
entries_append [] y = refl
entries_append (c ∷ x) y = append_assoc (entry_bytes c) (count_entries x) (count_entries y) ∙ ap (λ (z : Bytes). entry_bytes c ++ z) (entries_append x y)

-- the rows' are the first
pub listing_rows : {b : Bytes} {p at m : ℕ} {is ns : List ℕ} → Covers b p at m is → Tallied b m is ns → row_entries b m is ns ++ listing_from p b ≡ listing b
unfolding listing_from tally
listing_rows {b} {p} {at} {m} {is} {ns} w t =
    let c = count_of (ratings b) in
    let f = firsts_from [] (take p (ratings b)) in
    let u = firsts_at p (ratings b) in
    let all : tally (ratings b) ≡ map c f ++ map c u = ap (map c) (firsts_split p (ratings b)) ∙ sym (map_append c f u) in
    let own : rows b m is ns ≡ map c f = t.rows_are ∙ ap (take m) all ∙ take_at (map c f) (map c u) m (length_map c f ∙ covers_many w) in
    ap (λ (x : List Count). count_entries x ++ count_entries (map c u)) own ∙ entries_append (map c f) (map c u) ∙ ap count_entries (sym all)

module _ {b : Bytes} {p at m : ℕ} {is ns : List ℕ} (w : Covers b p at m is) (t : Tallied b m is ns) where
  pub rows_fit : (a : Bytes) → 16 + length (listing b) ≤ length a → 16 + length (row_entries b m is ns) ≤ length a
  rows_fit a h = omega (arith, ap length (listing_rows w t), length-append (row_entries b m is ns) (listing_from p b))

  pub rows_begun : {a c : Bytes} {e : ℕ} → 16 + length (listing b) ≤ length a → Put a 16 (row_entries b m is ns) e c → Begun (listing b) (listing_from p b) a c e
  rows_begun h put = record { room = h; text = row_entries b m is ns; put = put; is = listing_rows w t }

pub written_none : {b : Bytes} (d : Bytes) {p : ℕ} (e : ℕ) {l : List ℕ} → AheadAt b 0 p l → Written b d d p p e e l
written_none d e w = record { ahead = w; passed = omega arith; begun = λ a s. s }

module _ {b d c : Bytes} {p k e m : ℕ} {l : List ℕ} (w : Written b d c p k e m l) where
  module _ {i : ℕ} {rest : List ℕ} (here : l ≡ i ∷ rest) {t : Bool} (et : t ≡ is_first b k i) where
    piece_starts : listing_from k b ≡ entry_if t b i ++ listing_from (k + 1) b
    piece_starts = rw et (listing_next b k i (ahead_field w.ahead here rating))

    -- the next entry fits
    pub written_fits : {a : Bytes} → Begun (listing b) (listing_from p b) a d e → m + length (entry_if t b i) ≤ length c
    written_fits {a} s = begun_fits (w.begun a s) (entry_if t b i) (listing_from (k + 1) b) piece_starts

    pub written_next : {c' : Bytes} {m' : ℕ} → Put c m (entry_if t b i) m' c' → Written b d c' p (k + 1) e m' rest
    written_next put = record {
      ahead = ahead_further w.ahead here;
      passed = omega (arith, w.passed);
      begun = λ a s. begun_next (w.begun a s) (entry_if t b i) (listing_from (k + 1) b) piece_starts put;
    }

  module _ {a : Bytes} (s : Begun (listing b) (listing_from p b) a d e) where
    pub written_length : length c ≡ length a
    written_length = begun_length (w.begun a s)

    pub written_all : at32 b 16 ≤ k → Put a 16 (listing b) m c
    unfolding listing_from count_entries
    written_all h =
        begun_all (w.begun a s) (ap (λ (x : List Rating). count_entries (map (count_of (ratings b)) x)) (firsts_end k (ratings b) (ahead_over w.ahead rating h)))
