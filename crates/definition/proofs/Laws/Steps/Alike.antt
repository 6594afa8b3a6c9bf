-- Two legal stations that are alike, and moves that keep them so, whatever "alike" is. What it is stands in a `Likeness`, and what a likeness
-- must meet in its `Lasting`. Each law says besides that both stations stay legal, and that both are refused with the same number of the table.
-- For the laws of steps (AlikeSteps), of twins and of stations that are near.
use Prim.Native.Nat.{ℕ, suc, ◌+◌, ◌<◌}
use Rattle.std.specs.Prelude.{◌≡◌, List, [], ◌∷◌, Bool, drop}
use Rattle.std.proofs.Common.{sym, ◌∙◌, arith}
use Rattle.std.proofs.Math.Path.{ap}
use Rattle.std.proofs.Math.Option.{Option, none, some}
use Rattle.std.proofs.Math.ListN.{length}
use Rattle.octets.specs.Bytes.{Bytes}
use Rattle.definition.specs.Value.{RaiseValue, Action, Deed}
use Rattle.definition.specs.Chain.{Entry, entry, on_content}
use Rattle.definition.specs.Alarm.{Alarm, is_due, is_over}
use Rattle.definition.specs.Station.{Station, Step, ◌>>=◌, on_active, with_active, next_free, add_active, free_active, change_active}
use Rattle.definition.specs.Answer.{Answer, Raised, Updated}
use Rattle.definition.specs.Steps.{into_history, updated_by, new_alarm, cleared_by, action_answer, acted_on, expired_by, lifted_by}
use Rattle.definition.specs.Clauses.LegalFields.{LegalAlarm}
use Rattle.definition.specs.Clauses.LegalStation.{LegalStation}
use Rattle.definition.proofs.Laws.Steps.LegalMoves.{ended, Aside, add_active_legal, free_active_legal, change_active_legal}
use Rattle.definition.proofs.Laws.Steps.Answers.{said}
use Rattle.definition.proofs.Laws.Book.Occurrences.{length_without, length_replaced, length_last}
use Rattle.definition.specs.Twins.{AtEach}
use Rattle.definition.proofs.Laws.Steps.PairedChains.{distinct, Picked, nothing, picked_left, picked_right, picked_holds, Search, missed, found, first_each, picked_each, length_each, last_each, without_each, replaced_each}
use Rattle.definition.proofs.Laws.Steps.SideBySide.{Both, both, Related, Only}

-- ---- what is alike

pub record Likeness : Type 1 where
  -- two records at the same place of the active chains
  pub Pair : Entry Alarm → Entry Alarm → Type 0
  -- two alarms that are newly raised, that go into history
  pub New : Alarm → Alarm → Type 0
  pub Past : Alarm → Alarm → Type 0
  -- the rest of the stations, and what is answered
  pub Rest : Station → Station → Type 0
  pub Says : Answer → Answer → Type 0
  -- two raises
  pub Raise : RaiseValue → RaiseValue → Type 0

-- two alarms with legal fields
abbrev pub BothLegal : ℕ → Alarm → Alarm → Type 0
BothLegal top a a' = LegalAlarm top a × LegalAlarm top a'

-- legal and alike, n active alarms in each; d and d' were found on the active chains at the same places
pub record On (k : Likeness) (n : ℕ) (d d' : List (Entry Alarm)) (s t : Station) : Type 0 where
  pub legal : LegalStation s
  pub legal' : LegalStation t
  pub size : length s.active ≡ n
  pub limit : s.limit_a ≡ t.limit_a
  pub pairs : AtEach k.Pair s.active t.active
  pub picked : Picked d d' s.active t.active
  pub rest : k.Rest s t

-- answers of kind i that are alike, on stations that had n active alarms
pub record Told (k : Likeness) (i n : ℕ) (x x' : Answer) (s t : Station) : Type 0 where
  pub says : k.Says x x'
  pub kind : (said x).kind ≡ i
  pub even : n + (said x).came ≡ length s.active + (said x).went
  pub on : On k (length s.active) [] [] s t

-- another raise of the same alarm, in other words
abbrev pub worded : Bytes → Option Bytes → RaiseValue → RaiseValue
worded t d c = record { head = c.head; key = c.key; text = t; details = d }

-- what a likeness must meet
pub record Lasting (k : Likeness) : Type 0 where
  -- what is searched for, which alarms are due, and whose suppression is over
  pub keys : {e e' : Entry Alarm} → k.Pair e e' → e.content.key ≡ e'.content.key
  pub ids : {e e' : Entry Alarm} → k.Pair e e' → e.content.id ≡ e'.content.id
  pub due : {e e' : Entry Alarm} (t : ℕ) → k.Pair e e' → is_due t e.content ≡ is_due t e'.content
  pub over : {e e' : Entry Alarm} (t : ℕ) → k.Pair e e' → is_over t e.content ≡ is_over t e'.content
  -- changes
  pub updates : {e e' : Entry Alarm} {c : RaiseValue} {t : Bytes} {d : Option Bytes} → k.Raise c (worded t d c) → k.Pair e e' →
      k.Pair (on_content (updated_by c) e) (on_content (updated_by (worded t d c)) e')
  pub acts : {e e' : Entry Alarm} (d : Deed) (t : ℕ) → k.Pair e e' → k.Pair (on_content (acted_on d t) e) (on_content (acted_on d t) e')
  pub lifts : {e e' : Entry Alarm} (t : ℕ) → k.Pair e e' → k.Pair (on_content (lifted_by t) e) (on_content (lifted_by t) e')
  pub news : {c : RaiseValue} {t : Bytes} {d : Option Bytes} (i : Bytes) → length i ≡ 16 → k.Raise c (worded t d c) → k.New (new_alarm c i) (new_alarm (worded t d c) i)
  -- what goes into history
  pub clears : {e e' : Entry Alarm} (t : ℕ) → k.Pair e e' → k.Past (cleared_by t e.content) (cleared_by t e'.content)
  pub expires : {e e' : Entry Alarm} (t : ℕ) → k.Pair e e' → k.Past (expired_by t e.content) (expired_by t e'.content)
  pub pair_past : {e e' : Entry Alarm} → k.Pair e e' → k.Past e.content e'.content
  pub new_past : {a a' : Alarm} → k.New a a' → k.Past a a'
  -- the moves on the active chain
  pub changed : {s t : Station} {c c' : List (Entry Alarm)} → k.Rest s t → k.Rest (with_active c s.free s) (with_active c' t.free t)
  pub freed : {s t : Station} {c c' : List (Entry Alarm)} {e e' : Entry Alarm} → k.Pair e e' → k.Rest s t →
      k.Rest (with_active c (e.index ∷ s.free) s) (with_active c' (e'.index ∷ t.free) t)
  pub stored : {s t : Station} {a a' : Alarm} → k.New a a' → k.Rest s t → k.Pair (entry (next_free s) a) (entry (next_free t) a')
  pub taken : {s t : Station} {c c' : List (Entry Alarm)} → k.Rest s t → k.Rest (with_active c (drop 1 s.free) s) (with_active c' (drop 1 t.free) t)
  pub files : {a a' : Alarm} {n : ℕ} {d d' : List (Entry Alarm)} → k.Past a a' → BothLegal 5 a a' → Related (On k n d d') (Only (On k n d d')) (into_history a) (into_history a')
  -- answers
  pub says_same : (x : Answer) → k.Says x x
  pub says_raised : {a a' : Alarm} → k.New a a' → k.Says (Raised a) (Raised a')
  pub says_updated : {e e' : Entry Alarm} → k.Pair e e' → k.Says (Updated e.content) (Updated e'.content)
  pub says_acted : {e e' : Entry Alarm} (x : Action) → k.Pair e e' → k.Says (action_answer x e.content) (action_answer x e'.content)

-- both go on with the same active alarms
pub go_on : {k : Likeness} {n : ℕ} {d d' : List (Entry Alarm)} {s t s' t' : Station} → On k n d d' s t → Aside s s' → Aside t t' → k.Rest s' t' → On k n d d' s' t'
go_on p q r h = record {
  legal = q.legal;
  legal' = r.legal;
  size = ap length q.same ∙ p.size;
  limit = q.limit ∙ p.limit ∙ sym r.limit;
  pairs = rw (q.same, r.same) p.pairs;
  picked = rw (q.same, r.same) p.picked;
  rest = h;
}

-- what was found is legal
pub found_legal : {k : Likeness} {n : ℕ} {e e' : Entry Alarm} {d d' : List (Entry Alarm)} {s t : Station} → On k n (e ∷ d) (e' ∷ d') s t → BothLegal 3 e.content e'.content
found_legal p = picked_holds (LegalAlarm 3) p.picked p.legal.fields.active p.legal'.fields.active

module _ {k : Likeness} (l : Lasting k) where
  -- ---- the moves

  pub change_active_lem : {n : ℕ} {e e' : Entry Alarm} {d d' : List (Entry Alarm)} {a a' : Alarm} → k.Pair (entry e.index a) (entry e'.index a') → BothLegal 3 a a' →
      Related (On k n (e ∷ d) (e' ∷ d')) (Only (On k n d d')) (change_active e.index a) (change_active e'.index a')
  unfolding change_active
  change_active_lem {e = e} {e'} {a = a} {a'} h (g, g') = record {
    from = λ s t p.
        let w = replaced_each k.Pair a a' p.picked (distinct s p.legal.chains) (distinct t p.legal'.chains) p.pairs h in
        both (record {
          legal = ended (change_active_legal s p.legal e.index a g);
          legal' = ended (change_active_legal t p.legal' e'.index a' g');
          size = length_replaced e.index a s.active ∙ p.size;
          limit = p.limit;
          pairs = w.0;
          picked = w.1;
          rest = l.changed p.rest;
        });
  }

  pub free_active_lem : {n : ℕ} {e e' : Entry Alarm} {d d' : List (Entry Alarm)} → Related (On k (suc n) (e ∷ d) (e' ∷ d')) (Only (On k n d d')) (free_active e.index) (free_active e'.index)
  unfolding free_active
  free_active_lem {e = e} {e'} = record {
    from = λ s t p.
        let x = picked_left p.picked in
        let y = picked_right p.picked in
        let w = without_each k.Pair p.picked (distinct s p.legal.chains) (distinct t p.legal'.chains) p.pairs in
        both (record {
          legal = (ended (free_active_legal s p.legal e.index x)).0;
          legal' = (ended (free_active_legal t p.legal' e'.index y)).0;
          size = omega (arith, length_without e.index s.active x, p.size);
          limit = p.limit;
          pairs = w.0;
          picked = w.1;
          rest = l.freed (picked_each k.Pair p.picked p.pairs).0 p.rest;
        });
  }

  -- n alarms, and room for one more
  abbrev pub BelowLimit : ℕ → Station → Station → Type 0
  BelowLimit n s t = On k n [] [] s t × (n < s.limit_a)

  -- from two stations whose next free records may hold the two alarms
  pub add_active_at : {n : ℕ} {a a' : Alarm} (s t : Station) → BelowLimit n s t → BothLegal 3 a a' → k.Pair (entry (next_free s) a) (entry (next_free t) a') →
      Both (Only (On k (suc n) [] [])) (add_active a s) (add_active a' t)
  unfolding add_active
  add_active_at {a = a} {a'} s t (p, room) (g, g') h =
      let fits : length t.active < t.limit_a = omega (arith, room, p.size, p.limit, length_each k.Pair s.active t.active p.pairs) in
      both (record {
        legal = ended (add_active_legal s p.legal a g (omega (arith, room, p.size)));
        legal' = ended (add_active_legal t p.legal' a' g' fits);
        size = length_last s.active (entry (next_free s) a) ∙ ap suc p.size;
        limit = p.limit;
        pairs = last_each k.Pair s.active t.active p.pairs h;
        picked = nothing;
        rest = l.taken p.rest;
      })

  pub add_active_lem : {n : ℕ} {a a' : Alarm} → k.New a a' → BothLegal 3 a a' → Related (BelowLimit n) (Only (On k (suc n) [] [])) (add_active a) (add_active a')
  add_active_lem h g = record { from = λ s t p. add_active_at s t p g (l.stored h p.0.rest) }

  -- ---- what steps look at

  pub pick : {n : ℕ} {d d' : List (Entry Alarm)} {s t : Station} → On k n [] [] s t → Picked d d' s.active t.active → On k n d d' s t
  pick p q = record { legal = p.legal; legal' = p.legal'; size = p.size; limit = p.limit; pairs = p.pairs; picked = q; rest = p.rest }

  -- a search finds records at the same place on both, or on neither
  pub search_like : {A : Type 0} {n : ℕ} {P : Station → Station → Type 0} {Q : A → A → Station → Station → Type 0} (f f' : Option (Entry Alarm) → Step A) (t : Alarm → Bool) →
      ((e e' : Entry Alarm) → k.Pair e e' → t e.content ≡ t e'.content) → ((s r : Station) → P s r → On k n [] [] s r) → Related P Q (f none) (f' none) →
      ((e e' : Entry Alarm) → k.Pair e e' → BothLegal 3 e.content e'.content → Related (On k n (e ∷ []) (e' ∷ [])) Q (f (some e)) (f' (some e'))) → Related P Q (◌>>=◌ (on_active t) f) (◌>>=◌ (on_active t) f')
  unfolding ◌>>=◌
  search_like {P = P} {Q} f f' t b h x y = record { from = λ s r p. go s r p (first_each k.Pair t b s.active r.active (h s r p).pairs) }
    where
      go : (s r : Station) → P s r → {o o' : Option (Entry Alarm)} → Search k.Pair s.active r.active o o' → Both Q (f o s) (f' o' r)
      go s r p missed = x.from s r p
      go s r p (found {e} {e'} q z) = let w = pick (h s r p) z in (y e e' q (found_legal w)).from s r w
