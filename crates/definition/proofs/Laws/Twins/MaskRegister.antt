-- Masking a register's bytes is blanking its station: both fields, their lengths and presence are zero, and nothing else changes. For the
-- claim.
use Rattle.std.specs.Prelude.{ℕ, zero, suc, ◌+◌, ◌*◌, ◌≤◌, ◌<◌, ◌≡◌, refl, take, drop}
use Rattle.std.proofs.Math.Path.{sym, ap}
use Rattle.std.proofs.Common.{ap₂, ◌∙◌, arith, add-zero, take-append-drop, length-take-le}
use mathlib.Core.List.{List, [], ◌∷◌, ◌++◌, map, append_assoc}
use Rattle.std.proofs.Math.ListN.{length, length-append}
use Rattle.octets.specs.Bytes.{Bytes, zeros, splice}
use Rattle.octets.specs.NumberLaws.{length_zeros, zeros_append}
use Rattle.octets.specs.PartLaws.{part_length}
use Rattle.octets.specs.SpliceLaws.{length_splice, splice_append, splice_front, splice_whole, splice_two}
use Rattle.definition.specs.Chain.{Entry, entry, on_content, times}
use Rattle.definition.specs.Alarm.{Alarm}
use Rattle.definition.specs.Record.{alarm_bytes}
use Rattle.definition.proofs.Laws.Record.Payloads.{length_alarm}
use Rattle.definition.proofs.Laws.Record.ChangedSlot.{mask_alarm}
use Rattle.definition.specs.Book.{Record, Book, book_bytes}
use Rattle.definition.proofs.Laws.Book.RecordAt.{sized_append, sized_front, sized_back}
use Rattle.definition.proofs.Laws.Book.LegalChange.{fair}
use Rattle.definition.proofs.Laws.Book.ChangedChain.{with_self, chain_same}
use Rattle.definition.proofs.Laws.Book.Relink.{length_bytes}
use Rattle.definition.proofs.Laws.Book.ReadBack.{index_range, read_payload, read_bytes}
use Rattle.definition.proofs.Laws.Book.Replace.{replace_bytes, legal_with}
use Rattle.definition.specs.Station.{Station}
use Rattle.definition.specs.Clauses.LegalStation.{LegalChains}
use Rattle.definition.specs.Sound.{book_of, encode}
use Rattle.definition.proofs.Laws.Steps.StationBook.{book_legal}
use Rattle.definition.proofs.Laws.Book.Contents.{length_map}
use Rattle.definition.proofs.Laws.Twins.Blank.{blank, blank_entry, blank_station}
use Rattle.definition.specs.Mask.{texts_width, mask_record, mask_chain, mask_register}
use Rattle.definition.specs.Clauses.LegalBook.{Sized, LegalBook, chain}
use Rattle.definition.proofs.Laws.Book.Occurrences.{times_append}
use Rattle.definition.specs.Clauses.Moves.{with_chain}

-- ---- a splice within a part is a splice of the whole part

within : (a p r : Bytes) (m : ℕ) (v : Bytes) → m + length v ≤ length p → splice (a ++ (p ++ r)) (length a + m) v ≡ splice (a ++ (p ++ r)) (length a) (splice p m v)
within a p r m v h =
    let l = length_splice p m v h in
    splice_append a (p ++ r) m v
    ∙ ap (λ (x : Bytes). a ++ x) (splice_front p r m v h ∙ ap (λ (x : Bytes). x ++ r) (sym (splice_whole p (splice p m v) l)) ∙ sym (splice_front p r 0 (splice p m v) (omega (arith, l))))
    ∙ sym (splice_append a (p ++ r) 0 (splice p m v))
    ∙ ap (λ (k : ℕ). splice (a ++ (p ++ r)) k (splice p m v)) (add-zero (length a))

splice_within : (b : Bytes) (k n m : ℕ) (v : Bytes) → k + n ≤ length b → m + length v ≤ n → splice b (k + m) v ≡ splice b k (splice (take n (drop k b)) m v)
splice_within b k n m v h l =
    let e : take k b ++ (take n (drop k b) ++ drop n (drop k b)) ≡ b = rw (take-append-drop n (drop k b)) (take-append-drop k b) in
    let f : length (take k b) ≡ k = length-take-le k b (omega arith) in
    rw (e, f) at (within (take k b) (take n (drop k b)) (drop n (drop k b)) m v (omega (arith, part_length b k n h)))

-- ---- a payload, and a chain of them

abbrev pub mask_payload : Bytes → Bytes
mask_payload p = splice p 674 (zeros texts_width)

-- zeros in the place of both fields are the alarm without them
pub mask_payload_lem : (a : Alarm) → mask_payload (alarm_bytes a) ≡ alarm_bytes (blank a)
mask_payload_lem a =
    ap (splice (alarm_bytes a) 674) (sym (zeros_append 258 515))
    ∙ sym (splice_two (alarm_bytes a) 674 258 (zeros 258) (zeros 515) (length_zeros 258) (omega (arith, length_zeros 515, length_alarm a)))
    ∙ mask_alarm a

mask_entries : (c : List (Entry Alarm)) → map (on_content mask_payload) (map (on_content alarm_bytes) c) ≡ map (on_content alarm_bytes) (map blank_entry c)
mask_entries [] = refl
mask_entries (e ∷ c) = ap₂ ◌∷◌ (ap (entry e.index) (mask_payload_lem e.content)) (mask_entries c)

with_again : (x : ℕ) (c d : List Record) (s : Book) → with_chain x c (with_chain x d s) ≡ with_chain x c s
with_again zero c d s = refl
with_again (suc zero) c d s = refl
with_again (suc (suc zero)) c d s = refl
with_again (suc (suc (suc x))) c d s = refl

module _ (x : ℕ) (hx : x < 3) where
  x4 : x < 4
  x4 = omega arith

  -- the record behind a on chain x
  module _ (s : Book) (l : LegalBook s) (a : List Record) (e : Record) (t : List Record) (is : chain x s ≡ a ++ (e ∷ t)) where
    abbrev changed : List Record
    changed = a ++ (on_content mask_payload e ∷ t)

    sized : Sized (a ++ (e ∷ t))
    sized = rw is at (l.sized x x4)

    length_masked : length (mask_payload e.content) ≡ 1532
    length_masked =
        let h : length e.content ≡ 1532 = (sized_back a (e ∷ t) sized).0 in
        length_splice e.content 674 (zeros texts_width) (omega (arith, length_zeros texts_width)) ∙ h

    mask_one : mask_record (1536 * e.index) (book_bytes s) ≡ book_bytes (with_chain x changed s)
    unfolding mask_record
    mask_one =
        let k = 1536 * e.index + 4 in
        let r = index_range s (fair l) x x4 a e t is in
        ap (λ (n : ℕ). splice (book_bytes s) n (zeros texts_width)) (omega arith)
        ∙ splice_within (book_bytes s) k 1532 674 (zeros texts_width) (omega (arith, length_bytes s (fair l), r.1)) (omega (arith, length_zeros texts_width))
        ∙ ap (λ (p : Bytes). splice (book_bytes s) k (mask_payload p)) (read_payload s l x x4 a e t is)
        ∙ replace_bytes s (fair l) x x4 a e t is (mask_payload e.content) length_masked

    legal_one : LegalBook (with_chain x changed s)
    unfolding times
    legal_one =
        legal_with s l x hx changed
        (sized_append a (on_content mask_payload e ∷ t) (sized_front a (e ∷ t) sized) (length_masked, (sized_back a (e ∷ t) sized).1))
        (λ j. times_append a (on_content mask_payload e ∷ t) j ∙ sym (ap (times j) is ∙ times_append a (e ∷ t) j))
        (length-append a (on_content mask_payload e ∷ t) ∙ sym (ap length is ∙ length-append a (e ∷ t)))

  -- the records behind a
  mask_chain_lem : (s : Book) → LegalBook s → (a c : List Record) → chain x s ≡ a ++ c → mask_chain c (book_bytes s) ≡ book_bytes (with_chain x (a ++ map (on_content mask_payload) c) s)
  unfolding mask_chain
  mask_chain_lem s l a [] is = ap book_bytes (sym (with_self x s x4) ∙ ap (λ (c : List Record). with_chain x c s) is)
  mask_chain_lem s l a (e ∷ c) is =
      let d = on_content mask_payload e in
      let on = chain_same x (a ++ (d ∷ c)) s x4 in
      let m = map (on_content mask_payload) c in
      ap (mask_chain c) (mask_one s l a e c is)
      ∙ mask_chain_lem (with_chain x (a ++ (d ∷ c)) s) (legal_one s l a e c is) (a ++ (d ∷ [])) c (on ∙ sym (append_assoc a (d ∷ []) c))
      ∙ ap book_bytes (with_again x ((a ++ (d ∷ [])) ++ m) (a ++ (d ∷ c)) s ∙ ap (λ (r : List Record). with_chain x r s) (append_assoc a (d ∷ []) m))

-- ---- both chains

mask_append : (c d : List Record) (b : Bytes) → mask_chain (c ++ d) b ≡ mask_chain d (mask_chain c b)
unfolding mask_chain
mask_append [] d b = refl
mask_append (e ∷ c) d b = mask_append c d _

sized_masked : (c : List Record) → Sized c → Sized (map (on_content mask_payload) c)
sized_masked [] h = tt
sized_masked (e ∷ c) h = (length_splice e.content 674 (zeros texts_width) (omega (arith, length_zeros texts_width, h.0)) ∙ h.0, sized_masked c h.1)

times_masked : (c : List Record) (j : ℕ) → times j (map (on_content mask_payload) c) ≡ times j c
unfolding times
times_masked [] j = refl
times_masked (e ∷ c) j = rw (times_masked c j)

legal_masked : (s : Book) → LegalBook s → LegalBook (with_chain 0 (map (on_content mask_payload) s.active) s)
legal_masked s l =
    legal_with s l 0 (omega arith) (map (on_content mask_payload) s.active) (sized_masked s.active (l.sized 0 (omega arith)))
    (times_masked s.active) (length_map (on_content mask_payload) s.active)

mask_book : (s : Book) → LegalBook s → mask_register (book_bytes s) ≡ book_bytes (with_chain 1 (map (on_content mask_payload) s.history) (with_chain 0 (map (on_content mask_payload) s.active) s))
unfolding mask_register
mask_book s l =
    ap (λ (r : Book). mask_chain (r.active ++ r.history) (book_bytes s)) (read_bytes s l)
    ∙ mask_append s.active s.history (book_bytes s)
    ∙ ap (mask_chain s.history) (mask_chain_lem 0 (omega arith) s l [] s.active refl)
    ∙ mask_chain_lem 1 (omega arith) (with_chain 0 (map (on_content mask_payload) s.active) s) (legal_masked s l) [] s.history refl

pub mask_encode : (s : Station) → LegalChains s → mask_register (encode s) ≡ encode (blank_station s)
unfolding encode book_of
mask_encode s l = mask_book (book_of s) (book_legal s l) ∙ rw (mask_entries s.active, mask_entries s.history)
