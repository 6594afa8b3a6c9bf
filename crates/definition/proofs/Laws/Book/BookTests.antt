-- The tests `legal_book` and `sound_book` say what the propositions `LegalBook` and `SoundBook` say. For the laws of stations (SoundStation), and for
-- `model` and `register_check`.
use Rattle.std.specs.Prelude.{◌≡◌, refl, List, [], ◌∷◌, Bool, ◌&&◌, ℕ, zero, suc, ◌≤◌, ◌<◌, T, eqb, leb, ltb, length}
use Rattle.std.proofs.Common.{sym, ap, ◌∙◌, subst, arith, leb→le, le→leb, ltb→lt, lt→ltb, eqb→eq}
use Rattle.std.proofs.Math.Decide.{ℕ_discrete}
use Rattle.std.proofs.Math.Dec.{eqb_refl}
use Rattle.octets.specs.Bytes.{Bytes, zeros}
use Rattle.octets.specs.BoolLaws.{both, both_left, both_right, true_holds}
use Rattle.octets.specs.SameLaws.{same→eq, eq→same}
use Rattle.definition.specs.Book.{Record, Book, capacity, is_limit, limits_legal, lengths_legal, every, is_record, records_legal, is_zeroed, total, each_once, counters_legal, legal_book, sound_book, book_bytes, read_book}
use Rattle.definition.proofs.Laws.Book.ChangedChain.{lengths, total_on, total_where}
use Rattle.definition.proofs.Laws.Book.Pigeonhole.{sum_ones, sum_total}
use Rattle.definition.specs.Chain.{times}
use Rattle.definition.specs.Clauses.LegalBook.{Sized, Zeroed, Limit, LegalBook, SoundBook, chain, limit}
use Rattle.definition.proofs.Laws.Book.Occurrences.{times_hit, times_miss, times_nil, times_cons}

eq→eqb : (m n : ℕ) → m ≡ n → T (eqb m n)
eq→eqb m n e = subst (λ (k : ℕ). T (eqb m k)) e (eqb_refl m)

-- ---- two tests

module _ (a b : Bool) {P Q : Type 0} where
  pair_to : (T a → P) → (T b → Q) → T (a && b) → P × Q
  pair_to f g t = (f (both_left a b t), g (both_right a b t))

  pair_from : (P → T a) → (Q → T b) → P × Q → T (a && b)
  pair_from f g p = both a b (f p.0) (g p.1)

-- ---- limits

limit_to : (n : ℕ) → T (is_limit n) → Limit n
limit_to n = pair_to (leb 1 n) (leb n 65535) (leb→le 1 n) (leb→le n 65535)

limit_from : (n : ℕ) → Limit n → T (is_limit n)
limit_from n = pair_from (leb 1 n) (leb n 65535) (le→leb 1 n) (le→leb n 65535)

pub limits_to : (a h e : ℕ) → T (is_limit a && (is_limit h && is_limit e)) → Limit a × Limit h × Limit e
limits_to a h e t =
    let r = both_right (is_limit a) (is_limit h && is_limit e) t in (
      limit_to a (both_left (is_limit a) (is_limit h && is_limit e) t),
      limit_to h (both_left (is_limit h) (is_limit e) r),
      limit_to e (both_right (is_limit h) (is_limit e) r),
    )

limits_from : (a h e : ℕ) → Limit a × Limit h × Limit e → T (is_limit a && (is_limit h && is_limit e))
limits_from a h e l =
    both (is_limit a) (is_limit h && is_limit e) (limit_from a l.0) (both (is_limit h) (is_limit e) (limit_from h l.1) (limit_from e l.2))

-- ---- the records of a chain

-- what the test of one record says
record_to : (n : ℕ) (e : Record) → T (is_record n e) → (1 ≤ e.index) × (e.index ≤ n) × (length e.content ≡ 1532)
record_to n e t =
    let r = both_right (leb 1 e.index) (leb e.index n && eqb (length e.content) 1532) t in (
      leb→le 1 e.index (both_left (leb 1 e.index) (leb e.index n && eqb (length e.content) 1532) t),
      leb→le e.index n (both_left (leb e.index n) (eqb (length e.content) 1532) r),
      eqb→eq (length e.content) 1532 (both_right (leb e.index n) (eqb (length e.content) 1532) r),
    )

record_from : (n : ℕ) (e : Record) → 1 ≤ e.index → e.index ≤ n → length e.content ≡ 1532 → T (is_record n e)
record_from n e h k l =
    both (leb 1 e.index) (leb e.index n && eqb (length e.content) 1532) (le→leb 1 e.index h)
    (both (leb e.index n) (eqb (length e.content) 1532) (le→leb e.index n k) (eq→eqb (length e.content) 1532 l))

-- every index is one of 1 to n
abbrev Inside : ℕ → List Record → Type 0
Inside n c = (j : ℕ) → 1 ≤ times j c → (1 ≤ j) × (j ≤ n)

inside_cons : (n : ℕ) (e : Record) (c : List Record) → (1 ≤ e.index) × (e.index ≤ n) → Inside n c → Inside n (e ∷ c)
inside_cons n e c h k j l =
    elim (ℕ_discrete e.index j) [
      | yes q ↦ subst (λ (i : ℕ). (1 ≤ i) × (i ≤ n)) q h
      | no q ↦ k j (rw (times_miss e c j q) at l)
    ]

records_to : (n : ℕ) (c : List Record) → T (every (is_record n) c) → Sized c × Inside n c
unfolding every
records_to n [] t = (tt, λ j h. absurd (omega (arith, times_nil Bytes j)))
records_to n (e ∷ c) t =
    let r = record_to n e (both_left (is_record n e) (every (is_record n) c) t) in
    let s = records_to n c (both_right (is_record n e) (every (is_record n) c) t) in
    ((r.2, s.0), inside_cons n e c (r.0, r.1) s.1)

records_from : (n : ℕ) (c : List Record) → Sized c → Inside n c → T (every (is_record n) c)
unfolding every
records_from n [] s h = tt
records_from n (e ∷ c) s h =
    let r = h e.index (omega (arith, times_hit e c e.index refl)) in
    both (is_record n e) (every (is_record n) c) (record_from n e r.0 r.1 s.0)
    (records_from n c s.1 (λ j k. h j (omega (arith, times_cons e c j))))

pub zeroed_to : (c : List Record) → T (every is_zeroed c) → Zeroed c
unfolding every
zeroed_to [] t = tt
zeroed_to (e ∷ c) t =
    (sym (same→eq (zeros 1532) e.content (both_left (is_zeroed e) (every is_zeroed c) t)), zeroed_to c (both_right (is_zeroed e) (every is_zeroed c) t))

pub zeroed_from : (c : List Record) → Zeroed c → T (every is_zeroed c)
unfolding every
zeroed_from [] b = tt
zeroed_from (e ∷ c) b =
    both (is_zeroed e) (every is_zeroed c) (true_holds (is_zeroed e) (eq→same (zeros 1532) e.content (sym b.0))) (zeroed_from c b.1)

-- ---- each of 1 to n once

once_to : (n : ℕ) (s : Book) → T (each_once n s) → (i : ℕ) → 1 ≤ i → i ≤ n → total i s ≡ 1
unfolding each_once
once_to zero s t i h l = absurd (omega arith)
once_to (suc n) s t i h l =
    elim (ℕ_discrete i (suc n)) [
      | yes q ↦ ap (λ (j : ℕ). total j s) q ∙ eqb→eq (total (suc n) s) 1 (both_left (eqb (total (suc n) s) 1) (each_once n s) t)
      | no q ↦ once_to n s (both_right (eqb (total (suc n) s) 1) (each_once n s) t) i h (omega arith)
    ]

once_from : (n : ℕ) (s : Book) → ((i : ℕ) → 1 ≤ i → i ≤ n → total i s ≡ 1) → T (each_once n s)
unfolding each_once
once_from zero s h = tt
once_from (suc n) s h =
    both (eqb (total (suc n) s) 1) (each_once n s) (eq→eqb (total (suc n) s) 1 (h (suc n) (omega arith) (omega arith))) (once_from n s (λ i u v. h i u (omega arith)))

-- ---- a book

-- the tests of a legal book, one by one
record Tests (s : Book) : Type 0 where
  limits : T (limits_legal s)
  lengths : T (lengths_legal s)
  records : T (records_legal s)
  zeroed : T (every is_zeroed s.free)
  once : T (each_once (capacity s) s)
  counters : T (counters_legal s)

tests_to : (s : Book) → T (legal_book s) → Tests s
unfolding legal_book
tests_to s t =
    let l = limits_legal s in
    let w = lengths_legal s in
    let r = records_legal s in
    let z = every is_zeroed s.free in
    let o = each_once (capacity s) s in
    let c = counters_legal s in
    let t1 = both_right l (w && (r && (z && (o && c)))) t in
    let t2 = both_right w (r && (z && (o && c))) t1 in
    let t3 = both_right r (z && (o && c)) t2 in
    let t4 = both_right z (o && c) t3 in
    record {
      limits = both_left l (w && (r && (z && (o && c)))) t;
      lengths = both_left w (r && (z && (o && c))) t1;
      records = both_left r (z && (o && c)) t2;
      zeroed = both_left z (o && c) t3;
      once = both_left o c t4;
      counters = both_right o c t4;
    }

tests_from : (s : Book) → Tests s → T (legal_book s)
unfolding legal_book
tests_from s t =
    both (limits_legal s) _ t.limits (both (lengths_legal s) _ t.lengths (both (records_legal s) _ t.records
    (both (every is_zeroed s.free) _ t.zeroed (both (each_once (capacity s) s) (counters_legal s) t.once t.counters))))

-- a test of each of the four chains
module _ (p : List Record → Bool) (s : Book) where
  four_to : T (p s.active && (p s.history && (p s.audit && p s.free))) → (x : ℕ) → T (p (chain x s))
  four_to t zero = both_left (p s.active) _ t
  four_to t (suc zero) = both_left (p s.history) _ (both_right (p s.active) _ t)
  four_to t (suc (suc zero)) = both_left (p s.audit) _ (both_right (p s.history) _ (both_right (p s.active) _ t))
  four_to t (suc (suc (suc x))) = both_right (p s.audit) _ (both_right (p s.history) _ (both_right (p s.active) _ t))

  four_from : ((x : ℕ) → x < 4 → T (p (chain x s))) → T (p s.active && (p s.history && (p s.audit && p s.free)))
  four_from h =
      both (p s.active) _ (h 0 (omega arith)) (both (p s.history) _ (h 1 (omega arith)) (both (p s.audit) _ (h 2 (omega arith)) (h 3 (omega arith))))

-- the lengths of the chains
lengths_to : (s : Book) → T (lengths_legal s) → (x : ℕ) → x < 3 → length (chain x s) ≤ limit x s
lengths_to s t zero h = leb→le (length s.active) s.limit_a (both_left (leb (length s.active) s.limit_a) _ t)
lengths_to s t (suc zero) h =
    leb→le (length s.history) s.limit_h (both_left (leb (length s.history) s.limit_h) _ (both_right (leb (length s.active) s.limit_a) _ t))
lengths_to s t (suc (suc zero)) h =
    leb→le (length s.audit) s.limit_e (both_right (leb (length s.history) s.limit_h) _ (both_right (leb (length s.active) s.limit_a) _ t))
lengths_to s t (suc (suc (suc x))) h = absurd (omega arith)

legal_to : (s : Book) → T (legal_book s) → LegalBook s
unfolding lengths
legal_to s t =
    let c = tests_to s t in
    let h : (x : ℕ) → Sized (chain x s) × Inside (capacity s) (chain x s) = λ x. records_to (capacity s) (chain x s) (four_to (every (is_record (capacity s))) s c.records x) in
    let o = once_to (capacity s) s c.once in
    record {
      limits = limits_to s.limit_a s.limit_h s.limit_e c.limits;
      within = lengths_to s c.lengths;
      filled = sym (sum_total (capacity s) s (λ x k. (h x).1)) ∙ sum_ones (λ j. total j s) (capacity s) o;
      once = o;
      only = λ j k. let w = total_where s j k in (h w.0).1 j w.2;
      sized = λ x k. (h x).0;
      zeroed = zeroed_to s.free c.zeroed;
      counters = pair_to (ltb s.successes 18446744073709551616) (ltb s.failures 18446744073709551616) (ltb→lt _ _) (ltb→lt _ _) c.counters;
    }

legal_from : (s : Book) → LegalBook s → T (legal_book s)
legal_from s l =
    tests_from s (record {
      limits = limits_from s.limit_a s.limit_h s.limit_e l.limits;
      lengths = both (leb (length s.active) s.limit_a) _ (le→leb _ _ (l.within 0 (omega arith)))
          (both (leb (length s.history) s.limit_h) _ (le→leb _ _ (l.within 1 (omega arith))) (le→leb _ _ (l.within 2 (omega arith))));
      records = four_from (every (is_record (capacity s))) s
          (λ x h. records_from (capacity s) (chain x s) (l.sized x h) (λ j k. l.only j (omega (arith, total_on x s j h))));
      zeroed = zeroed_from s.free l.zeroed;
      once = once_from (capacity s) s l.once;
      counters = pair_from (ltb s.successes 18446744073709551616) (ltb s.failures 18446744073709551616) (lt→ltb _ _) (lt→ltb _ _) l.counters;
    })

-- ---- a register

pub sound_to : (b : Bytes) → T (sound_book b) → SoundBook b
unfolding sound_book
sound_to b t =
    record {
      legal = legal_to (read_book b) (both_left (legal_book (read_book b)) _ t);
      bytes = same→eq (book_bytes (read_book b)) b (both_right (legal_book (read_book b)) _ t);
    }

pub sound_from_lem : (b : Bytes) → SoundBook b → T (sound_book b)
unfolding sound_book
sound_from_lem b s =
    both (legal_book (read_book b)) _ (legal_from (read_book b) s.legal) (true_holds _ (eq→same (book_bytes (read_book b)) b s.bytes))
