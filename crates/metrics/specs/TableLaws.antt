-- The rows of a table, each a record and an amount: read, counted in, and added.
use Prim.Native.Nat.{ℕ, ◌+◌, ◌≤◌, ◌<◌}
use Rattle.std.specs.Prelude.{◌≡◌, Bool, true, false, MatchOption, Some, None, length, take, get_or, set, Option}
use Rattle.std.proofs.Math.Path.{refl, sym, ap}
use Rattle.std.proofs.Common.{◌∙◌, subst, arith, length-take, get_or-take}
use Rattle.std.proofs.Math.ListN.{get_or-map}
use Rattle.std.proofs.Math.Seq.{map-set_same}
use Rattle.std.proofs.lemmas.List.{map-set}
use Rattle.std.proofs.lemmas.List.{get_or-map as mapped_at}
use Rattle.std.specs.List.{AllWithin, HoldsAt}
use Rattle.definition.specs.Reports.{Rating, same_rating}
use mathlib.Core.List.{List}
use Rattle.std.specs.Option.{is_some, unwrap_or}
use Rattle.octets.specs.Bytes.{Bytes}
use Rattle.definition.proofs.Laws.Book.Contents.{length_map}
use Rattle.metrics.specs.declared.table.Row.{Row}
use Rattle.metrics.specs.Meaning.{Fits, rating_at, most_rows, records, amounts, AllFit, AllSmall, RowOf, CountedIn, Noted}
use Rattle.metrics.specs.RowLaws.{none_above}

abbrev row : ℕ → ℕ → Row
row i n = record { «record» = i; amount = n }

abbrev record_of : Row → ℕ
record_of r = r.record

abbrev amount_of : Row → ℕ
amount_of r = r.amount

-- ---- row j of the first m

module _ (m j : ℕ) (rs : List Row) (h : j < length (take m rs)) where
  pub row_within : j < m
  row_within = omega (arith, h, length-take m rs)

  abbrev here : Row
  here = get_or (take m rs) j (row 0 0)

  pub record_here : here.record ≡ get_or (records rs) j 0
  record_here = ap record_of (get_or-take m rs j (row 0 0) row_within) ∙ sym (get_or-map record_of rs j (row 0 0))

  pub amount_here : here.amount ≡ get_or (amounts rs) j 0
  amount_here = ap amount_of (get_or-take m rs j (row 0 0) row_within) ∙ sym (get_or-map amount_of rs j (row 0 0))

  pub record_fits : (b : Bytes) → AllFit b m (records rs) → Fits b here.record
  record_fits b f = subst (Fits b) (sym record_here) (f j row_within)

-- a row that is found among the first m
pub fits_at : (m j : ℕ) (rs : List Row) (b : Bytes) (r : Row) → AllFit b m (records rs) → j < length (take m rs) → r ≡ get_or (take m rs) j r → Fits b r.record
fits_at m j rs b r f h e =
    let w : j < m = omega (arith, h, length-take m rs) in
    let l : j < length rs = omega (arith, h, length-take m rs) in
    subst (Fits b) (sym (ap record_of (e ∙ get_or-take m rs j r w) ∙ sym (mapped_at record_of rs j r 0 l))) (f j w)

-- whether its rating is q
abbrev pub has : Bytes → Rating → Bool → Row → Type 0
has b q t r = same_rating (rating_at b r.record) q ≡ t

pub row_found :
    (b : Bytes) (m : ℕ) (rs : List Row) (q : Rating) (r : Option ℕ) → m ≤ length rs →
    MatchOption r (AllWithin (has b q false) (take m rs) 0 (length (take m rs))) (λ i. (i < length (take m rs)) × HoldsAt (has b q true) (take m rs) i × AllWithin (has b q false) (take m rs) 0 i) →
    RowOf b (records rs) m q (unwrap_or r m)
row_found b m rs q None l w = record {
  within = omega arith;
  before = λ j h.
      let g : j < length (take m rs) = omega (arith, h, l, length-take m rs) in
      subst (λ (i : ℕ). same_rating (rating_at b i) q ≡ false) (record_here m j rs g) (w j (row 0 0) (omega arith) g);
  here = λ h. absurd (omega arith);
}
row_found b m rs q (Some i) l w = record {
  within = omega (arith, row_within m i rs w.0);
  before = λ j h.
      let g : j < length (take m rs) = omega (arith, h, w.0) in
      subst (λ (i : ℕ). same_rating (rating_at b i) q ≡ false) (record_here m j rs g) (w.2 j (row 0 0) (omega arith) h);
  here = λ h. subst (λ (i : ℕ). same_rating (rating_at b i) q ≡ true) (record_here m i rs w.0) (w.1 (row 0 0));
}

-- all m are passed
pub rows_passed : (m j : ℕ) (rs : List Row) → m ≤ most_rows → length (records rs) ≡ most_rows → length (take m rs) ≤ j → m ≤ j
rows_passed m j rs room l h = omega (arith, room, l, h, length-take m rs, length_map record_of rs)

-- ---- one more in row j

module _ (rs : List Row) (j m : ℕ) (h : j < m) where
  abbrev one_more : Row
  one_more = row (get_or rs j (row 0 0)).record ((get_or rs j (row 0 0)).amount + 1)

  pub amount_small : AllSmall m (amounts rs) → (get_or rs j (row 0 0)).amount < 4294967295
  amount_small s = omega (arith, s j h, get_or-map amount_of rs j (row 0 0))

  pub row_counted : CountedIn (amounts rs) m j (amounts (set rs j one_more))
  row_counted = record {
    row = λ g. map-set amount_of rs j one_more ∙ ap (λ (x : ℕ). set (amounts rs) j (x + 1)) (sym (get_or-map amount_of rs j (row 0 0)));
    none = λ g. absurd (omega (arith, h));
  }

  pub records_kept : records (set rs j one_more) ≡ records rs
  records_kept = map-set_same record_of rs j one_more (row 0 0) refl

-- ---- record i as row m

pub row_noted :
    (b : Bytes) (i m : ℕ) (rs : List Row) (r : Option ℕ) → RowOf b (records rs) m (rating_at b i) (unwrap_or r m) → is_some r ≡ false → m < most_rows →
    Noted b i m (records rs) (amounts rs) (m + 1) (records (set rs m (row i 1))) (amounts (set rs m (row i 1)))
row_noted b i m rs r w none room =
    let above = none_above r m none in
    record {
      row = unwrap_or r m;
      found = w;
      room = omega (arith, room, w.within);
      counted = λ h. absurd (omega (arith, above));
      new = λ h. (refl, map-set record_of rs m (row i 1), map-set amount_of rs m (row i 1));
    }
