-- A sound register passes the check. For `register_check`, and for loops along its links (LinkLoops).
use Rattle.std.specs.Prelude.{◌≡◌, ℕ, suc, ◌+◌, ◌*◌, ◌≤◌, ◌<◌, drop}
use Rattle.std.proofs.Math.Path.{refl, sym, ap}
use Rattle.std.proofs.Common.{◌∙◌, subst, arith, length-append, drop_at, take_all}
use mathlib.Core.List.{List, [], ◌∷◌, ◌++◌, append_assoc}
use Rattle.std.proofs.Math.ListN.{length, take}
use Rattle.octets.specs.Bytes.{Bytes, at32, zeros}
use Rattle.octets.specs.NumberLaws.{length_digits, length_zeros}
use Rattle.octets.specs.PackLaws.{part_pack}
use Rattle.definition.specs.Book.{Record, Book, capacity, record_at, words, be32s, counters, header, book_bytes, read_book}
use Rattle.definition.proofs.Laws.Book.LegalChange.{fair}
use Rattle.definition.proofs.Laws.Book.Header.{length_be32s}
use Rattle.definition.proofs.Laws.Book.ChangedChain.{total_two}
use Rattle.definition.proofs.Laws.Book.Relink.{length_record}
use Rattle.definition.proofs.Laws.Book.ReadBack.{index_range}
use Rattle.definition.proofs.Laws.Book.SoundNumbers.{length_sound, head_at, length_at, link_at}
use Rattle.definition.specs.Chain.{first_of, times}
use Rattle.definition.proofs.Laws.Book.Occurrences.{last_nil, last_on_lem}
use Rattle.definition.specs.Clauses.LegalBook.{LegalBook, SoundBook, chain, last_of}
use Rattle.definition.specs.Clauses.Check.{Leads, PassesCheck}

on_last : (c : List Record) → 1 ≤ last_of c → 1 ≤ times (last_of c) c
on_last [] h = absurd (omega (arith, last_nil Bytes))
on_last (e ∷ c) h = last_on_lem e c

header_tail : (s : Book) → LegalBook s → take 1476 (drop 60 (book_bytes s)) ≡ zeros 1476
unfolding book_bytes record_at header
header_tail s l =
    let h : length (be32s (words s) ++ counters s) ≡ 60 = simp (length-append, length_be32s, length_digits) in
    part_pack 1536 (suc (capacity s)) 0 (record_at s) 60 1476 (length_record s (fair l)) (omega arith) (omega arith)
    ∙ ap (λ (r : Bytes). take 1476 (drop 60 r)) (sym (append_assoc (be32s (words s)) (counters s) (zeros 1476)))
    ∙ ap (take 1476) (drop_at (be32s (words s) ++ counters s) (zeros 1476) 60 h)
    ∙ take_all 1476 (zeros 1476) (omega (arith, length_zeros 1476))

module _ (b : Bytes) (sound : SoundBook b) where
  abbrev s : Book
  s = read_book b

  l : LegalBook s
  l = sound.legal

  leads : (x : ℕ) → x < 4 → (a c : List Record) → chain x s ≡ a ++ c → Leads b (capacity s) (length c) (first_of c)
  unfolding first_of
  leads x hx a [] q = refl
  leads x hx a (e ∷ t) q =
      let r = index_range s (fair l) x hx a e t q in
      (r.0, r.1, rw (link_at b sound x hx a e t q) (leads x hx (a ++ (e ∷ [])) t (q ∙ sym (append_assoc a (e ∷ []) t))))

  pub sound_checked : PassesCheck b
  unfolding read_book
  sound_checked =
      record {
        numbers = record {
          limits = l.limits;
          size = length_sound b sound;
          lengths = record {
            within = omega (arith, l.within 0 (omega arith), l.within 1 (omega arith), l.within 2 (omega arith), n 0 (omega arith), n 1 (omega arith), n 2 (omega arith));
            filled = omega (arith, l.filled, n 0 (omega arith), n 1 (omega arith), n 2 (omega arith), n 3 (omega arith));
          };
        };
        chained = record {
          leads = λ x hx. rw (length_at b sound x hx, head_at b sound x hx) (leads x hx [] (chain x s) refl);
          apart = apart;
        };
        tail = ap (λ (r : Bytes). take 1476 (drop 60 r)) (sym sound.bytes) ∙ header_tail s l;
        zeroed = l.zeroed;
      }
    where
      n : (x : ℕ) → x < 4 → at32 b (16 + 8 * x) ≡ length (chain x s)
      n x hx = length_at b sound x hx

      apart : (x y : ℕ) → x < 4 → y < 4 → (x ≡ y → ⊥) → 1 ≤ last_of (chain x s) → last_of (chain x s) ≡ last_of (chain y s) → ⊥
      apart x y hx hy k h q =
          let j = last_of (chain x s) in
          let u : 1 ≤ times j (chain x s) = on_last (chain x s) h in
          let v : 1 ≤ times j (chain y s) = subst (λ (t : ℕ). 1 ≤ times t (chain y s)) (sym q) (on_last (chain y s) (omega arith)) in
          omega (arith, total_two x y s j hx hy k, (fair l).once j)
