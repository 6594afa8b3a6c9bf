-- A legal station and its book, which is legal too; a fresh one is. For sound bytes (SoundStation) and opening (`model`).
use Rattle.std.specs.Prelude.{ℕ, zero, suc, ◌+◌, ◌≤◌, ◌<◌, ◌≡◌, refl, List, [], ◌∷◌, map, length}
use Rattle.std.proofs.Common.{◌∙◌, arith}
use Rattle.std.proofs.Math.Decide.{dec_lt}
use Rattle.octets.specs.Bytes.{Bytes, zeros}
use Rattle.octets.specs.NumberLaws.{length_zeros}
use Rattle.definition.specs.Chain.{Entry, on_content, up_from, times}
use Rattle.definition.proofs.Laws.Book.Contents.{length_map}
use Rattle.definition.proofs.Laws.Book.Occurrences.{length_up_from, up_from_in, up_from_range, times_map}
use Rattle.definition.proofs.Laws.Record.Payloads.{length_alarm, length_event}
use Rattle.definition.specs.Record.{alarm_bytes, read_alarm, event_bytes, read_event}
use Rattle.definition.specs.Book.{Record, Book, capacity, total, free_record}
use Rattle.definition.specs.Station.{Station, fresh}
use Rattle.definition.specs.Sound.{book_of, index_of, station_of}
use Rattle.definition.specs.Clauses.LegalStation.{records, LegalChains, times_in, LegalStation}
use Rattle.definition.specs.Clauses.LegalBook.{Limit, Sized, Zeroed, chain, limit, LegalBook}

-- ---- contents do not matter

sized_put : {A : Type 0} (f : A → Bytes) → ((a : A) → length (f a) ≡ 1532) → (c : List (Entry A)) → Sized (map (on_content f) c)
sized_put f h [] = tt
sized_put f h (e ∷ c) = (h e.content, sized_put f h c)

times_free : (i : ℕ) (l : List ℕ) → times i (map free_record l) ≡ times_in i l
unfolding times times_in
times_free i [] = refl
times_free i (j ∷ l) = rw (times_free i l)

times_index : (i : ℕ) (c : List Record) → times_in i (map index_of c) ≡ times i c
unfolding times times_in
times_index i [] = refl
times_index i (e ∷ c) = rw (times_index i c)

free_sized : (l : List ℕ) → Sized (map free_record l)
unfolding zeros
free_sized [] = tt
free_sized (i ∷ l) = (length_zeros 1532, free_sized l)

free_zeroed : (l : List ℕ) → Zeroed (map free_record l)
free_zeroed [] = tt
free_zeroed (i ∷ l) = (refl, free_zeroed l)

-- ---- legal together

pub book_legal : (s : Station) → LegalChains s → LegalBook (book_of s)
unfolding book_of total
book_legal s l =
    let a = length_map (on_content alarm_bytes) s.active in
    let h = length_map (on_content alarm_bytes) s.history in
    let e = length_map (on_content event_bytes) s.audit in
    let f = length_map free_record s.free in
    record {
      limits = l.limits;
      within = fits a h e;
      filled = omega (arith, l.filled);
      once = λ i p q. omega (arith, l.once i, sums i, up_from_in i 1 (records s) p (omega arith));
      only = λ i p. up_from_range i (records s) (omega (arith, l.once i, sums i));
      sized = sized;
      zeroed = free_zeroed s.free;
      counters = l.counters;
    }
  where
    sums : (i : ℕ) →
        times i (book_of s).active + (times i (book_of s).history + (times i (book_of s).audit + times i (book_of s).free))
        ≡ times i s.active + times i s.history + times i s.audit + times_in i s.free
    sums i = omega (arith, times_map alarm_bytes i s.active, times_map alarm_bytes i s.history, times_map event_bytes i s.audit, times_free i s.free)

    fits : length (book_of s).active ≡ length s.active → length (book_of s).history ≡ length s.history → length (book_of s).audit ≡ length s.audit
        → (x : ℕ) → x < 3 → length (chain x (book_of s)) ≤ limit x (book_of s)
    fits a h e zero p = omega (arith, l.active_fits)
    fits a h e (suc zero) p = omega (arith, l.history_fits)
    fits a h e (suc (suc zero)) p = omega (arith, l.audit_fits)
    fits a h e (suc (suc (suc x))) p = absurd (omega arith)

    sized : (x : ℕ) → x < 4 → Sized (chain x (book_of s))
    sized zero p = sized_put alarm_bytes length_alarm s.active
    sized (suc zero) p = sized_put alarm_bytes length_alarm s.history
    sized (suc (suc zero)) p = sized_put event_bytes length_event s.audit
    sized (suc (suc (suc x))) p = free_sized s.free

pub station_legal : (b : Book) → LegalBook b → LegalChains (station_of b)
unfolding station_of total
station_legal b l =
    let a = length_map (on_content read_alarm) b.active in
    let h = length_map (on_content read_alarm) b.history in
    let e = length_map (on_content read_event) b.audit in
    let f = length_map index_of b.free in
    record {
      limits = l.limits;
      active_fits = omega (arith, l.within 0 (omega arith));
      history_fits = omega (arith, l.within 1 (omega arith));
      audit_fits = omega (arith, l.within 2 (omega arith));
      filled = omega (arith, l.filled);
      once = λ i. sums i ∙ once i;
      counters = l.counters;
    }
  where
    sums : (i : ℕ) →
        times i (station_of b).active + times i (station_of b).history + times i (station_of b).audit + times_in i (station_of b).free ≡ total i b
    sums i = omega (arith, times_map read_alarm i b.active, times_map read_alarm i b.history, times_map read_event i b.audit, times_index i b.free)

    once : (i : ℕ) → total i b ≡ times_in i (up_from 1 (capacity b))
    once i = elim (dec_lt 0 (times_in i (up_from 1 (capacity b)))) [
      | yes p ↦ (let r = up_from_range i (capacity b) p in omega (arith, l.once i r.0 r.1, up_from_in i 1 (capacity b) r.0 (omega arith)))
      | no p ↦ elim (dec_lt 0 (total i b)) [
        | yes q ↦ (let r = l.only i q in absurd (omega (arith, up_from_in i 1 (capacity b) r.0 (omega arith))))
        | no q ↦ omega arith
      ]
    ]

-- ---- a fresh one

pub fresh_legal : (a h e : ℕ) → Limit a → Limit h → Limit e → LegalChains (fresh a h e)
unfolding fresh times
fresh_legal a h e p q r = record {
  limits = (p, q, r);
  active_fits = omega arith;
  history_fits = omega arith;
  audit_fits = omega arith;
  filled = omega (arith, length_up_from 1 (a + h + e));
  once = λ i. omega arith;
  counters = (omega arith, omega arith);
}

pub fresh_legal_station : (a h e : ℕ) → Limit a → Limit h → Limit e → LegalStation (fresh a h e)
unfolding fresh
fresh_legal_station a h e p q r = record { chains = fresh_legal a h e p q r; fields = record { active = tt; history = tt; audit = tt } }
