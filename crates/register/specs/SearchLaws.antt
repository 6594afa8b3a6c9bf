-- Laws of searches: the bytes that the tests look at, the search along the chain, and what is known of a record that was found.
use Rattle.std.specs.Prelude.{◌≡◌, List, [], ◌∷◌, map, Bool, true, false, ℕ, ◌+◌, ◌*◌, ◌≤◌, ◌<◌, T, length, drop}
use Rattle.std.proofs.Math.Path.{refl, sym, ap₂}
use Rattle.std.proofs.Common.{ap, ◌∙◌, arith, length-take, eq-eqb, ne_eqb}
use Rattle.std.proofs.Math.Option.{some}
use Rattle.std.proofs.Math.ListN.{take}
use Rattle.octets.specs.Bytes.{Bytes, same, value, at32, number_at}
use Rattle.octets.specs.PartLaws.{part_front, part_drop, part_part}
use Rattle.definition.specs.Chain.{Entry, entry, on_content, first, present, times}
use Rattle.definition.specs.Alarm.{Alarm, has_key, has_id}
use Rattle.definition.specs.Slot.{cut}
use Rattle.definition.specs.Record.{read_alarm}
use Rattle.definition.specs.Book.{Record, record_of, read_book}
use Rattle.definition.specs.Sound.{station_of, station, sound}
use Rattle.definition.proofs.Laws.Book.Contents.{on_some}
use Rattle.definition.proofs.Laws.Book.LegalChange.{fair}
use Rattle.definition.proofs.Laws.Book.ChangedChain.{total_on}
use Rattle.definition.proofs.Laws.Book.Occurrences.{times_cons, times_hit, times_miss}
use Rattle.definition.specs.Clauses.Moves.{prev_of, CanRelease}
use Rattle.definition.proofs.Laws.Steps.SoundStation.{sound_holds}
use Rattle.std.specs.Prelude as std
use Rattle.register.specs.declared.Found.{Found}
use Rattle.register.specs.Search.{Used, alarm_at, Match, behind, first_match, meaning, Finds}
use Rattle.register.specs.Walk.{Progress}
use Rattle.register.specs.WalkLaws.{progress_first, progress_end, progress_here, progress_fits, progress_next}

-- ---- the tests

module _ (b k : Bytes) (i : ℕ) where
  abbrev from : ℕ
  from = 1536 * i + 4

  -- the key lies first
  pub key_test : (a n : ℕ) → a ≡ from → n ≡ 16 → same k (take n (drop a b)) ≡ has_key k (alarm_at b i)
  unfolding read_alarm cut
  key_test a n ha hn = rw (ha, hn) (ap (same k) (sym (part_front b from 16 1532 (omega arith))))

  -- the id: a length in two bytes, and a room of 64
  pub id_test : (at a m n : ℕ) → at ≡ from + 43 → a ≡ at + 2 → m ≡ n → Used (number_at 2 b at) 64 n → same k (take m (drop a b)) ≡ has_id k (alarm_at b i)
  unfolding read_alarm cut
  id_test at a m n h ha hm u =
      rw (ha, hm) (ap (same k) (sym (ap id slot ∙ ap₂ take number room ∙ u.is (take 64 (drop (at + 2) b)) short ∙ part_front b (at + 2) n 64 u.fits)))
    where
      id : Bytes → Bytes
      id s = take (value (take 2 s)) (drop 2 s)

      slot : take 66 (drop 43 (record_of b i).content) ≡ take 66 (drop at b)
      slot = part_part b from 43 66 1532 (omega arith) ∙ ap (λ (z : ℕ). take 66 (drop z b)) (sym h)

      number : value (take 2 (take 66 (drop at b))) ≡ number_at 2 b at
      number = ap value (part_front b at 2 66 (omega arith))

      room : drop 2 (take 66 (drop at b)) ≡ take 64 (drop (at + 2) b)
      room = part_drop b at 2 64

      short : length (take 64 (drop (at + 2) b)) ≤ 64
      short = omega (arith, length-take 64 (drop (at + 2) b))

-- ---- along the active chain

abbrev alarms : List Record → List (Entry Alarm)
alarms c = map (on_content read_alarm) c

-- k of its n records are passed, and the first match of the rest is that of the whole; q is the record before `at`
pub record Searching (t : Alarm → Bool) (b : Bytes) (n k at q : ℕ) : Type 0 where
  pub progress : Progress b 0 n k at
  pub same : first_match t q (alarms (drop k (read_book b).active)) ≡ first_match t 0 (station b).active

module _ {t : Alarm → Bool} {b : Bytes} where
  pub search_start : {n at : ℕ} → T (sound b) → n ≡ at32 b 16 → at ≡ at32 b 12 → Searching t b n 0 at 0
  unfolding station station_of
  search_start h en e = record { progress = progress_first h (omega arith) en e; same = refl }

  module _ {n k at q : ℕ} (w : Searching t b n k at q) where
    from_here : {c : List Record} → drop k (read_book b).active ≡ c → first_match t q (alarms c) ≡ first_match t 0 (station b).active
    from_here e = ap (λ (c : List Record). first_match t q (alarms c)) (sym e) ∙ w.same

    pub search_end : n ≤ k → Finds t b std.None
    unfolding first_match
    search_end l = record { is = from_here (progress_end w.progress l) }

    module _ (l : k < n) where
      pub search_fits : 1536 * at + 1536 ≤ length b
      search_fits = progress_fits w.progress l

      pub search_hit : t (alarm_at b at) ≡ true → Finds t b (std.Some (record { at = at; previous = q }))
      unfolding first_match
      search_hit y = record { is = rw y at (from_here (progress_here w.progress l)) }

      pub search_miss : {r : ℕ} → t (alarm_at b at) ≡ false → r ≡ at32 b (1536 * at) → Searching t b n (k + 1) r at
      unfolding first_match
      search_miss y e = record { progress = progress_next w.progress l e; same = rw y at (from_here (progress_here w.progress l)) }

-- ---- the definition's search: the first match but the record before it

abbrev alarm_of : Match → Entry Alarm
alarm_of m = m.alarm

first_match_lem : (t : Alarm → Bool) (q : ℕ) (c : List (Entry Alarm)) → on_some alarm_of (first_match t q c) ≡ first t c
unfolding first_match first
first_match_lem t q [] = refl
first_match_lem t q (e ∷ c) = go (t e.content) refl (first_match_lem t e.index c)
  where
    go : (y : Bool) → t e.content ≡ y → on_some alarm_of (first_match t e.index c) ≡ first t c → on_some alarm_of (first_match t q (e ∷ c)) ≡ first t (e ∷ c)
    go true d h = rw d
    go false d h = rw d h

-- ---- where a match stands

-- record i is on a chain, and p is before it, where it is there once
record Stands (i q p : ℕ) (c : List Record) : Type 0 where
  on : 1 ≤ times i c
  before : times i c ≤ 1 → prev_of q i c ≡ p

stands : (t : Alarm → Bool) (q : ℕ) (c : List Record) {i p : ℕ} {a : Alarm} → first_match t q (alarms c) ≡ some (behind p (entry i a)) → Stands i q p c
unfolding first_match prev_of
stands t q [] h = absurd (let z : ◌≡◌ {A = ℕ} 0 1 = cc in omega arith)
stands t q (e ∷ c) {i} {p} {a} h = go (t (read_alarm e.content)) refl (stands t e.index c)
  where
    go : (y : Bool) → t (read_alarm e.content) ≡ y → (first_match t e.index (alarms c) ≡ some (behind p (entry i a)) → Stands i e.index p c) → Stands i q p (e ∷ c)
    go true d ih =
        let k : some (behind q (on_content read_alarm e)) ≡ some (behind p (entry i a)) = rw d at h in
        let km : behind q (on_content read_alarm e) ≡ behind p (entry i a) = cc in
        let ki : e.index ≡ i = ap (λ (m : Match). m.alarm.index) km in
        let kp : q ≡ p = ap (λ (m : Match). m.previous) km in
        record { on = omega (arith, times_hit e c i ki); before = λ _. rw (eq-eqb e.index i ki) kp }
    go false d ih =
        let s = ih (rw d at h) in
        record {
          on = omega (arith, s.on, times_cons e c i);
          before = λ l.
              let n : e.index ≡ i → ⊥ = λ q'. omega (arith, times_hit e c i q', s.on) in
              rw (ne_eqb e.index i n) (s.before (omega (arith, times_miss e c i n)));
        }

-- ---- what is known of a search's answer

module _ {t : Alarm → Bool} {b : Bytes} {f : std.Option Found} (w : Finds t b f) where
  is_match : {g : std.Option Found} → f ≡ g → first_match t 0 (station b).active ≡ meaning b g
  is_match e = sym w.is ∙ ap (meaning b) e

  -- its alarm, or none, is what the definition's search finds
  pub finds_first : {g : std.Option Found} → f ≡ g → first t (station b).active ≡ on_some alarm_of (meaning b g)
  finds_first e = sym (first_match_lem t 0 (station b).active) ∙ ap (on_some alarm_of) (is_match e)

  -- whether there is one
  pub finds_present : std.is_some f ≡ present (first t (station b).active)
  finds_present = there f refl
    where
      there : (g : std.Option Found) → f ≡ g → std.is_some g ≡ present (first t (station b).active)
      there (std.Some x) e = ap present (sym (finds_first e))
      there std.None e = ap present (sym (finds_first e))

  -- its record is on the active chain, behind the one before it: what the moves ask
  pub finds_release : {g : Found} → f ≡ std.Some g → T (sound b) → CanRelease b 0 g.at g.previous
  unfolding station station_of
  finds_release {g} e h =
      let k = (sound_holds b h).book in
      let s = stands t 0 (read_book b).active (is_match e) in
      record {
        sound = k;
        which = omega arith;
        on = s.on;
        before = sym (s.before (omega (arith, total_on 0 (read_book b) g.at (omega arith), (fair k.legal).once g.at)));
      }
