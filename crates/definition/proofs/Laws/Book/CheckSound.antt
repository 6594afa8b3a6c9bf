-- A register that passes the check is sound: ways by links that end, have true lengths and different last records meet each record once. For
-- `register_check`, and for code that follows links (`history`, `admin`).
use Rattle.std.specs.Prelude.{◌≡◌, refl, drop}
use Rattle.std.proofs.Math.Path.{sym, ap, ap₂, subst}
use Rattle.std.proofs.Common.{◌∙◌, take-add, drop-drop, length-take, length-drop}
use mathlib.Core.List.{List, [], ◌∷◌, ◌++◌}
use Prim.Native.Nat.{ℕ, zero, suc, ◌+◌, ◌*◌, ◌≤◌, ◌<◌}
use native.Mathlib.Omega.{arith}
use Rattle.std.proofs.Math.Decide.{ℕ_discrete}
use Rattle.std.proofs.Math.ListN.{length, take}
use Rattle.octets.specs.Bytes.{Bytes, Octets, be32, be64, at32, number_at}
use Rattle.octets.specs.NumberLaws.{be32_at32, digits_number, number_lt}
use Rattle.octets.specs.PackLaws.{pack_ext, pack_parts}
use Rattle.definition.specs.Book.{Record, Book, record_of, capacity, total, record_in, record_at, words, be32s, header, book_bytes, read_book, walk}
use Rattle.definition.proofs.Laws.Book.RecordAt.{in_hit, in_miss}
use Rattle.definition.proofs.Laws.Book.ChangedChain.{lengths, with_self, record_with, total_on, total_where}
use Rattle.definition.proofs.Laws.Book.LinkPaths.{length_walk, leads_once, leads_in_lem, leads_meet, leads_last}
use Rattle.definition.proofs.Laws.Book.Pigeonhole.{sum_full, sum_total}
use Rattle.definition.specs.Chain.{first_of, times}
use Rattle.definition.specs.Clauses.LegalBook.{Sized, LegalBook, SoundBook, chain, limit, last_of}
use Rattle.definition.proofs.Laws.Book.Occurrences.{times_nil, times_miss}
use Rattle.definition.specs.Clauses.Check.{Leads, PassesCheck}

pub chain_read : (b : Bytes) (x : ℕ) → x < 4 → chain x (read_book b) ≡ walk b (at32 b (16 + 8 * x)) (at32 b (12 + 8 * x))
unfolding read_book
chain_read b zero h = refl
chain_read b (suc zero) h = refl
chain_read b (suc (suc zero)) h = refl
chain_read b (suc (suc (suc zero))) h = refl
chain_read b (suc (suc (suc (suc x)))) h = absurd (omega arith)

sized_walk : (b : Bytes) (m n i : ℕ) → length b ≡ 1536 * suc m → Leads b m n i → Sized (walk b n i)
unfolding walk
sized_walk b m zero i h p = tt
sized_walk b m (suc n) i h p =
    (rw (length-take, length-drop) (omega (arith, p.1)), sized_walk b m n (at32 b (1536 * i)) h p.2)

-- a way starts where it should
head_walk : (b : Bytes) (m n i : ℕ) → Leads b m n i → first_of (walk b n i) ≡ i
unfolding walk first_of
head_walk b m zero i p = sym p
head_walk b m (suc n) i p = refl

-- a record on a way is as the chain has it
in_walk :
    (b : Bytes) (m n i j : ℕ) (d : Bytes) → Leads b m n i → 1 ≤ times j (walk b n i) →
    record_in (walk b n i) j d ≡ be32 (at32 b (1536 * j)) ++ take 1532 (drop (1536 * j + 4) b)
unfolding walk
in_walk b m zero i j d p h = absurd (omega (arith, times_nil Bytes j))
in_walk b m (suc n) i j d p h =
    let r = at32 b (1536 * i) in
    elim (ℕ_discrete i j) [
      | yes q ↦ in_hit (record_of b i) (walk b n r) j d q
          ∙ ap (λ (k : ℕ). be32 k ++ take 1532 (drop (1536 * i + 4) b)) (head_walk b m n r p.2)
          ∙ ap (λ (k : ℕ). be32 (at32 b (1536 * k)) ++ take 1532 (drop (1536 * k + 4) b)) q
      | no q ↦ in_miss (record_of b i) (walk b n r) j d q
          ∙ in_walk b m n r j d p.2 (rw (times_miss (record_of b i) (walk b n r) j q) at h)
    ]

-- n numbers of b from k on
words_at : Bytes → ℕ → ℕ → Bytes
words_at b k zero = []
words_at b k (suc n) = at32 b k ∷ words_at b (k + 4) n

be32s_at : (b : Bytes) (k n : ℕ) → Octets b → k + 4 * n ≤ length b → be32s (words_at b k n) ≡ take (4 * n) (drop k b)
unfolding words_at be32s
be32s_at b k zero byte h = refl
be32s_at b k (suc n) byte h =
    let e : 4 * suc n ≡ 4 + 4 * n = omega arith in
    rw (e, take-add 4 (4 * n) (drop k b), drop-drop 4 k b, be32_at32 b k byte (omega arith), be32s_at b (k + 4) n byte (omega arith))

module _ (b : Bytes) (ck : PassesCheck b) (byte : Octets b) where
  abbrev s : Book
  s = read_book b

  abbrev m : ℕ
  m = capacity s

  len : ℕ → ℕ
  len x = at32 b (16 + 8 * x)

  start : ℕ → ℕ
  start x = at32 b (12 + 8 * x)

  on : (x j : ℕ) → x < 4 → 1 ≤ times j (chain x s) → 1 ≤ times j (walk b (len x) (start x))
  unfolding len start
  on x j hx h = rw (chain_read b x hx) at h

  once_on : (x j : ℕ) → x < 4 → times j (chain x s) ≤ 1
  once_on x j hx = rw (chain_read b x hx) (leads_once b m _ _ j (ck.chained.leads x hx))

  in_on : (x j : ℕ) → x < 4 → 1 ≤ times j (chain x s) → (1 ≤ j) × (j ≤ m)
  unfolding len start
  in_on x j hx h = leads_in_lem b m _ _ j (ck.chained.leads x hx) (on x j hx h)

  pair : (x y j : ℕ) → x < 4 → y < 4 → (x ≡ y → ⊥) → times j (chain x s) + times j (chain y s) ≤ 1
  unfolding len start
  pair x y j hx hy n =
      elim (ℕ_discrete (times j (chain x s)) 0) [
        | yes p ↦ omega (arith, once_on y j hy)
        | no p ↦
            elim (ℕ_discrete (times j (chain y s)) 0) [
              | yes q ↦ omega (arith, once_on x j hx)
              | no q ↦
                  let u = on x j hx (omega arith) in
                  let v = on y j hy (omega arith) in
                  absurd (ck.chained.apart x y hx hy n
                  (subst (λ (c : List Record). 1 ≤ last_of c) (sym (chain_read b x hx)) (leads_last b m _ _ j (ck.chained.leads x hx) u))
                  (ap last_of (chain_read b x hx) ∙ leads_meet b m _ _ _ _ j (ck.chained.leads x hx) (ck.chained.leads y hy) u v ∙ ap last_of (sym (chain_read b y hy))))
            ]
      ]

  total_once : (j : ℕ) → total j s ≤ 1
  unfolding total
  total_once j =
      omega (
        arith,
        pair 0 1 j (omega arith) (omega arith) (λ q. omega arith),
        pair 0 2 j (omega arith) (omega arith) (λ q. omega arith),
        pair 0 3 j (omega arith) (omega arith) (λ q. omega arith),
        pair 1 2 j (omega arith) (omega arith) (λ q. omega arith),
        pair 1 3 j (omega arith) (omega arith) (λ q. omega arith),
        pair 2 3 j (omega arith) (omega arith) (λ q. omega arith),
      )

  total_in : (j : ℕ) → 1 ≤ total j s → (1 ≤ j) × (j ≤ m)
  total_in j h = let w = total_where s j h in in_on w.0 j w.1 w.2

  length_on : (x : ℕ) → x < 4 → length (chain x s) ≡ len x
  unfolding len
  length_on x hx = ap length (chain_read b x hx) ∙ length_walk b _ _

  filled : lengths s ≡ m
  unfolding lengths len read_book
  filled = omega (arith, length_on 0 (omega arith), length_on 1 (omega arith), length_on 2 (omega arith), length_on 3 (omega arith), ck.numbers.lengths.filled)

  check_legal : LegalBook s
  unfolding read_book lengths len
  check_legal =
      record {
        limits = ck.numbers.limits;
        within = within;
        filled = filled;
        once = sum_full (λ j. total j s) m total_once (sum_total m s (λ x hx j. in_on x j hx) ∙ filled);
        only = total_in;
        sized = λ x hx. subst (λ (c : List Record). Sized c) (sym (chain_read b x hx)) (sized_walk b m _ _ ck.numbers.size (ck.chained.leads x hx));
        zeroed = ck.zeroed;
        counters = (number_lt 8 b 44 byte (omega (arith, ck.numbers.size)), number_lt 8 b 52 byte (omega (arith, ck.numbers.size)));
      }
    where
      within : (x : ℕ) → x < 3 → length (chain x s) ≤ limit x s
      within zero h = omega (arith, length_on 0 (omega arith), ck.numbers.lengths.within)
      within (suc zero) h = omega (arith, length_on 1 (omega arith), ck.numbers.lengths.within)
      within (suc (suc zero)) h = omega (arith, length_on 2 (omega arith), ck.numbers.lengths.within)
      within (suc (suc (suc x))) h = absurd (omega arith)

  -- record j on chain x
  record_on_x : (x j : ℕ) → x < 4 → (j ≡ 0 → ⊥) → 1 ≤ times j (chain x s) → record_at s j ≡ be32 (at32 b (1536 * j)) ++ take 1532 (drop (1536 * j + 4) b)
  unfolding len start
  record_on_x x j hx nz h =
      (rw (with_self x s hx) at (record_with x (chain x s) s j [] hx nz (omega (arith, total_once j, total_on x s j hx)) h))
      ∙ ap (λ (c : List Record). record_in c j []) (chain_read b x hx)
      ∙ in_walk b m _ _ j [] (ck.chained.leads x hx) (on x j hx h)

  record_part : (j : ℕ) → 1 ≤ j → j ≤ m → record_at s j ≡ take 1536 (drop (1536 * j) b)
  record_part j h l =
      any ∙ ap (λ (r : Bytes). r ++ take 1532 (drop (1536 * j + 4) b)) (be32_at32 b (1536 * j) byte (omega (arith, ck.numbers.size)))
      ∙ ap (λ (r : Bytes). take 4 (drop (1536 * j) b) ++ take 1532 r) (sym (drop-drop 4 (1536 * j) b))
      ∙ sym (take-add 4 1532 (drop (1536 * j) b))
    where
      nz : j ≡ 0 → ⊥
      nz q = omega arith

      one : total j s ≡ 1
      one = check_legal.once j h l

      any : record_at s j ≡ be32 (at32 b (1536 * j)) ++ take 1532 (drop (1536 * j + 4) b)
      any = let w = total_where s j (omega (arith, one)) in record_on_x w.0 j w.1 nz w.2

  words_read : words s ≡ words_at b 0 11
  unfolding read_book words_at
  words_read =
      let h : (x : ℕ) → x < 4 → first_of (walk b (at32 b (16 + 8 * x)) (at32 b (12 + 8 * x))) ≡ at32 b (12 + 8 * x) = λ x hx. head_walk b m _ _ (ck.chained.leads x hx) in
      let l : (n i : ℕ) → length (walk b n i) ≡ n = length_walk b in
      rw (
        h 0 (omega arith),
        h 1 (omega arith),
        h 2 (omega arith),
        h 3 (omega arith),
        l (at32 b 16) (at32 b 12),
        l (at32 b 24) (at32 b 20),
        l (at32 b 32) (at32 b 28),
        l (at32 b 40) (at32 b 36),
      )

  header_part : header s ≡ take 1536 b
  unfolding header read_book
  header_part =
      let z : 1536 ≤ length b = omega (arith, ck.numbers.size) in
      let c : be64 (number_at 8 b 44) ++ be64 (number_at 8 b 52) ≡ take 16 (drop 44 b) =
      ap₂ ◌++◌ (digits_number 8 b 44 byte (omega arith)) (digits_number 8 b 52 byte (omega arith) ∙ ap (take 8) (sym (drop-drop 8 44 b))) ∙ sym (take-add 8 8 (drop 44 b)) in
      ap₂ ◌++◌ (ap be32s words_read ∙ be32s_at b 0 11 byte (omega arith))
      (ap₂ ◌++◌ c (sym ck.tail ∙ ap (take 1476) (sym (drop-drop 16 44 b))) ∙ sym (take-add 16 1476 (drop 44 b)))
      ∙ sym (take-add 44 1492 b)

  check_bytes : book_bytes s ≡ b
  unfolding book_bytes record_at
  check_bytes = pack_ext (suc m) (record_at s) (λ j. take 1536 (drop (1536 * j) b)) part ∙ pack_parts 1536 (suc m) b ck.numbers.size
    where
      part : (j : ℕ) → j < suc m → record_at s j ≡ take 1536 (drop (1536 * j) b)
      part zero h = header_part
      part (suc j) h = record_part (suc j) (omega arith) (omega arith)

  pub check_sound : SoundBook b
  check_sound = record { legal = check_legal; bytes = check_bytes }
