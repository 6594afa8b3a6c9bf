-- An affected object's slot: its width, that a legal object is read back, and when the slot is sound, kind by kind. For payloads, `build` and
-- `record_check`.
use Rattle.std.specs.Prelude.{◌≡◌, refl, [], ◌∷◌, Bool, true, false, ◌&&◌, ℕ, zero, suc, ◌+◌, ◌≤◌, ◌<◌, T, eqb, length, take, drop, get_or}
use Rattle.std.proofs.Common.{sym, ap, ap₂, ◌∙◌, arith, ne_eqb, length-take, length-drop}
use Rattle.std.proofs.Math.Decide.{ℕ_discrete}
use Rattle.octets.specs.Bytes.{Bytes, Octets, same, zeros, blank, digits, value}
use Rattle.octets.specs.BoolLaws.{and_false, and_true, both_left, both_right}
use Rattle.octets.specs.SameLaws.{same_refl, ne→same}
use Rattle.octets.specs.NumberLaws.{length_zeros, length_digits}
use Rattle.definition.specs.Utf8.{utf8}
use Rattle.definition.specs.Limits.{short_limit}
use Rattle.definition.specs.Value.{ObjectValue, nf_instance, interface, peer, session_store, slice, tenant, certificate, data_plane_queue}
use Rattle.definition.specs.Slot.{sound_slot, number, option, cut, all_of}
use Rattle.definition.proofs.Laws.Record.Join.{Fits, length_join, cut_join, same_join, matches}
use Rattle.definition.proofs.Laws.Record.Slot.{Lawful, is_number, is_string, is_option, same_blank, sound_number}
use Rattle.definition.specs.Record.{short, object_widths, object_parts, parts_of, object_from, object_ok, from_parts, object_slot}

pub is_short : Lawful short
is_short = is_string short_limit utf8 (omega arith)

object_fits : (k : ℕ) (a x : Bytes) (q : ℕ) → length x ≡ 67 → Fits object_widths (object_parts k a x q)
object_fits k a x q h = (refl, (is_short.len a, (h, (length_digits 2 q, tt))))

parts_fit : (o : ObjectValue) → Fits object_widths (parts_of o)
parts_fit (nf_instance a b) = object_fits 1 a (0 ∷ short.put b) 0 (ap suc (is_short.len b))
parts_fit (interface a b) = object_fits 2 a (0 ∷ short.put b) 0 (ap suc (is_short.len b))
parts_fit (peer a b) = object_fits 3 a (0 ∷ short.put b) 0 (ap suc (is_short.len b))
parts_fit (session_store a s) = object_fits 4 a ((option short).put s) 0 ((is_option short is_short).len s)
parts_fit (slice a) = object_fits 5 a (zeros 67) 0 (length_zeros 67)
parts_fit (tenant a) = object_fits 6 a (zeros 67) 0 (length_zeros 67)
parts_fit (certificate a) = object_fits 7 a (zeros 67) 0 (length_zeros 67)
parts_fit (data_plane_queue a b q) = object_fits 8 a (0 ∷ short.put b) q (ap suc (is_short.len b))

pub is_object : Lawful object_slot
is_object =
    record {
      len = λ o. length_join object_widths (parts_of o) (parts_fit o);
      back = λ o t. ap from_parts (cut_join object_widths (parts_of o) (parts_fit o)) ∙ backs o t;
    }
  where
    two : (a b : Bytes) → T (short.ok a && short.ok b) → (short.get (short.put a) ≡ a) × (short.get (short.put b) ≡ b)
    two a b t = (is_short.back a (both_left (short.ok a) (short.ok b) t), is_short.back b (both_right (short.ok a) (short.ok b) t))

    backs : (o : ObjectValue) → T (object_ok o) → from_parts (parts_of o) ≡ o
    backs (nf_instance a b) t = let r = two a b t in ap₂ nf_instance r.0 r.1
    backs (interface a b) t = let r = two a b t in ap₂ interface r.0 r.1
    backs (peer a b) t = let r = two a b t in ap₂ peer r.0 r.1
    backs (session_store a s) t =
        ap₂ session_store (is_short.back a (both_left (short.ok a) ((option short).ok s) t))
        ((is_option short is_short).back s (both_right (short.ok a) ((option short).ok s) t))
    backs (slice a) t = ap slice (is_short.back a t)
    backs (tenant a) t = ap tenant (is_short.back a t)
    backs (certificate a) t = ap certificate (is_short.back a t)
    backs (data_plane_queue a b q) t =
        let u = both_right (short.ok a) (short.ok b && (number 2).ok q) t in
        let p1 = is_short.back a (both_left (short.ok a) (short.ok b && (number 2).ok q) t) in
        let p2 = is_short.back b (both_left (short.ok b) ((number 2).ok q) u) in
        let p3 = (is_number 2).back q (both_right (short.ok b) ((number 2).ok q) u) in
        λ i. data_plane_queue (p1 i) (p2 i) (p3 i)

-- ---- when it is sound

-- a list of the length given, by its first
one_of : (b : Bytes) → length b ≡ 1 → b ≡ get_or b 0 0 ∷ []
one_of [] h = absurd (omega arith)
one_of (x ∷ []) h = refl
one_of (x ∷ y ∷ b) h = absurd (omega arith)

same_one : (k : ℕ) (b : Bytes) → length b ≡ 1 → get_or b 0 0 ≡ k → same (k ∷ []) b ≡ true
same_one k b h e = rw (one_of b h, e) (same_refl (k ∷ []))

same_other : (k : ℕ) (b : Bytes) → (get_or b 0 0 ≡ k → ⊥) → same (k ∷ []) b ≡ false
same_other k b h = ne→same (k ∷ []) b (λ e. h (sym (ap (λ (x : Bytes). get_or x 0 0) e)))

-- a mark of 0 before
same_marked : (s b : Bytes) → 0 < length b → same (0 ∷ s) b ≡ eqb (get_or b 0 0) 0 && same s (drop 1 b)
unfolding same
same_marked s [] h = absurd (omega arith)
same_marked s (x ∷ b) h = ap (λ (t : Bool). t && same s b) (swap x)
  where
    swap : (x : ℕ) → eqb 0 x ≡ eqb x 0
    swap zero = refl
    swap (suc x) = rw (ne_eqb 0 (suc x) (omega arith), ne_eqb (suc x) 0 (omega arith))

no_queue : (b : Bytes) → length b ≡ 2 → same (digits 2 0) b ≡ blank b
unfolding digits zeros
no_queue b h = same_blank 2 b h

-- ---- tests in the order of the code
both_tests : (a b s m t q : Bool) → (a && b) && (s && ((m && t) && (q && true))) ≡ (((a && s) && m) && (b && t)) && q
both_tests false b s m t q = refl
both_tests true false false m t q = refl
both_tests true false true false t q = refl
both_tests true false true true t q = refl
both_tests true true false m t q = refl
both_tests true true true false t q = refl
both_tests true true true true false q = refl
both_tests true true true true true q = and_true q

shard_tests : (a b s t q : Bool) → (a && b) && (s && (t && (q && true))) ≡ ((a && s) && (b && t)) && q
shard_tests false b s t q = refl
shard_tests true false false t q = refl
shard_tests true false true t q = refl
shard_tests true true false t q = refl
shard_tests true true true false q = refl
shard_tests true true true true q = and_true q

one_tests : (a s t q : Bool) → a && (s && (t && (q && true))) ≡ ((a && s) && t) && q
one_tests false s t q = refl
one_tests true false t q = refl
one_tests true true false q = refl
one_tests true true true q = and_true q

queue_tests : (a b n s m t q : Bool) → n && q ≡ true → (a && (b && n)) && (s && ((m && t) && (q && true))) ≡ ((a && s) && m) && (b && t)
queue_tests a b false s m t q e = let z : ◌≡◌ {A = ℕ} 0 1 = cc in absurd (omega arith)
queue_tests a b true s m t false e = let z : ◌≡◌ {A = ℕ} 0 1 = cc in absurd (omega arith)
queue_tests a b true s m t true e = rw (and_true b) (both_tests a b s m t true ∙ and_true _)

module _ (b : Bytes) (size : length b ≡ 136) where
  abbrev part0 : Bytes
  part0 = take 1 (drop 0 b)

  abbrev pub part1 : Bytes
  part1 = take 66 (drop 1 b)

  abbrev pub part2 : Bytes
  part2 = take 67 (drop 67 b)

  abbrev pub part3 : Bytes
  part3 = take 2 (drop 134 b)

  len : (at n : ℕ) → at + n ≤ 136 → length (take n (drop at b)) ≡ n
  len at n h = omega (arith, length-take n (drop at b), length-drop at b)

  -- the object that is read, and its bytes part by part
  by_parts : (o : ObjectValue) → object_slot.get b ≡ o →
      sound_slot object_slot b ≡ object_ok o && all_of (matches (parts_of o) (part0 ∷ part1 ∷ part2 ∷ part3 ∷ []))
  unfolding sound_slot cut
  by_parts o e = rw e (ap (λ (x : Bool). object_ok o && x) (same_join 0 object_widths (parts_of o) b (parts_fit o) size))

  abbrev kind : ℕ
  kind = get_or part0 0 0

  abbrev a : Bytes
  a = short.get part1

  abbrev s : Bytes
  s = short.get (drop 1 part2)

  -- the kind and two strings
  two : (k : ℕ) (o : ObjectValue) → kind ≡ k → object_slot.get b ≡ o → parts_of o ≡ object_parts k a (0 ∷ short.put s) 0 → object_ok o ≡ short.ok a && short.ok s →
      sound_slot object_slot b ≡ ((sound_slot short part1 && eqb (get_or part2 0 0) 0) && sound_slot short (drop 1 part2)) && blank part3
  unfolding sound_slot
  two k o h e f g =
      by_parts o e
      ∙ rw (f, g, same_one k part0 (len 0 1 (omega arith)) h, same_marked (short.put s) part2 (omega (arith, len 67 67 (omega arith))), no_queue part3 (len 134 2 (omega arith)))
      (both_tests (short.ok a) (short.ok s) (same (short.put a) part1) (eqb (get_or part2 0 0) 0) (same (short.put s) (drop 1 part2)) (blank part3))

  -- the kind and one string
  one : (k : ℕ) (o : ObjectValue) → kind ≡ k → object_slot.get b ≡ o → parts_of o ≡ object_parts k a (zeros 67) 0 → object_ok o ≡ short.ok a →
      sound_slot object_slot b ≡ (sound_slot short part1 && blank part2) && blank part3
  unfolding sound_slot
  one k o h e f g =
      by_parts o e
      ∙ rw (f, g, same_one k part0 (len 0 1 (omega arith)) h, same_blank 67 part2 (len 67 67 (omega arith)), no_queue part3 (len 134 2 (omega arith)))
      (one_tests (short.ok a) (same (short.put a) part1) (blank part2) (blank part3))

  read : (k : ℕ) → kind ≡ k → object_slot.get b ≡ object_from k part1 part2 part3
  unfolding cut
  read k h = rw h

  pub object_two : (k : ℕ) → kind ≡ k → 0 < k → k < 4 → sound_slot object_slot b ≡ ((sound_slot short part1 && eqb (get_or part2 0 0) 0) && sound_slot short (drop 1 part2)) && blank part3
  object_two zero h l m = absurd (omega arith)
  object_two (suc zero) h l m = two 1 (nf_instance a s) h (read 1 h) refl refl
  object_two (suc (suc zero)) h l m = two 2 (interface a s) h (read 2 h) refl refl
  object_two (suc (suc (suc zero))) h l m = two 3 (peer a s) h (read 3 h) refl refl
  object_two (suc (suc (suc (suc k)))) h l m = absurd (omega arith)

  pub object_one : (k : ℕ) → kind ≡ k → 4 < k → k < 8 → sound_slot object_slot b ≡ (sound_slot short part1 && blank part2) && blank part3
  object_one k h l m = go k h l m
    where
      go : (k : ℕ) → kind ≡ k → 4 < k → k < 8 → sound_slot object_slot b ≡ (sound_slot short part1 && blank part2) && blank part3
      go k h l m =
          elim (ℕ_discrete k 5) [
            | yes e ↦ one 5 (slice a) (h ∙ e) (read 5 (h ∙ e)) refl refl
            | no n ↦ elim (ℕ_discrete k 6) [
              | yes e ↦ one 6 (tenant a) (h ∙ e) (read 6 (h ∙ e)) refl refl
              | no n' ↦ let e : k ≡ 7 = omega arith in one 7 (certificate a) (h ∙ e) (read 7 (h ∙ e)) refl refl
            ]
          ]

  pub object_shard : kind ≡ 4 → sound_slot object_slot b ≡ (sound_slot short part1 && sound_slot (option short) part2) && blank part3
  unfolding sound_slot
  object_shard h =
      let o = session_store a ((option short).get part2) in
      by_parts o (read 4 h)
      ∙ rw (same_one 4 part0 (len 0 1 (omega arith)) h, no_queue part3 (len 134 2 (omega arith)))
      (shard_tests (short.ok a) ((option short).ok ((option short).get part2)) (same (short.put a) part1) (same ((option short).put ((option short).get part2)) part2) (blank part3))

  pub object_queue : kind ≡ 8 → Octets part3 → sound_slot object_slot b ≡ (sound_slot short part1 && eqb (get_or part2 0 0) 0) && sound_slot short (drop 1 part2)
  unfolding sound_slot
  object_queue h oct =
      let o = data_plane_queue a s (value part3) in
      by_parts o (read 8 h)
      ∙ rw (same_one 8 part0 (len 0 1 (omega arith)) h, same_marked (short.put s) part2 (omega (arith, len 67 67 (omega arith))))
      (queue_tests (short.ok a) (short.ok s) ((number 2).ok (value part3)) (same (short.put a) part1) (eqb (get_or part2 0 0) 0) (same (short.put s) (drop 1 part2)) (same (digits 2 (value part3)) part3)
      (sound_number 2 part3 (len 134 2 (omega arith)) oct))

  -- no kind: the bytes of what is read begin with 8
  pub object_none : (k : ℕ) → kind ≡ k → ((i : ℕ) → 0 < i → i < 9 → k ≡ i → ⊥) → sound_slot object_slot b ≡ false
  object_none k h out =
      let o = data_plane_queue a s (value part3) in
      let other : (i : ℕ) → 0 < i → i < 9 → eqb k i ≡ false = λ i l m. ne_eqb k i (out i l m) in
      let e : object_from k part1 part2 part3 ≡ o =
      rw (
        other 1 (omega arith) (omega arith),
        other 2 (omega arith) (omega arith),
        other 3 (omega arith) (omega arith),
        other 4 (omega arith) (omega arith),
        other 5 (omega arith) (omega arith),
        other 6 (omega arith) (omega arith),
        other 7 (omega arith) (omega arith),
      ) in
      by_parts o (read k h ∙ e) ∙ rw (same_other 8 part0 (λ z. out 8 (omega arith) (omega arith) (sym h ∙ z))) (and_false (object_ok o))
