-- Steps on two stations that are alike: one law for each step. Each says that both stations stay legal and alike, that a call is refused on
-- both with the same number of the table, and that the active length moves by what is answered. For the laws of calls on twins
-- (TwinSteps) and on stations that are near (NearSteps).
use Prim.Native.Nat.{ℕ, zero, suc, ◌+◌, ◌-◌, ◌*◌, ◌≤◌}
use Rattle.std.specs.Prelude.{◌≡◌, Bool, eqb, ltb}
use Rattle.std.proofs.Math.Path.{refl, ap}
use Rattle.std.proofs.Common.{◌∙◌, subst, arith}
use mathlib.Core.List.{List, [], ◌∷◌}
use Rattle.std.proofs.Math.Option.{Option, none, some}
use Rattle.std.proofs.Math.ListN.{length}
use borrow.Author.Tests.{leb-false}
use Rattle.octets.specs.Bytes.{Bytes, same}
use Rattle.definition.specs.Value.{RaiseValue, ClearValue, PlainValue, Action, acknowledging, suppressing, Deed, untimed, deed_action, deed_end}
use Rattle.definition.specs.Key.{key_of}
use Rattle.definition.proofs.Laws.Text.Key.{length_key}
use Rattle.definition.specs.Chain.{Entry, entry}
use Rattle.definition.specs.Alarm.{Alarm, has_key, has_id}
use Rattle.definition.specs.Station.{Station, Step, give, for_each}
use Rattle.definition.specs.Answer.{Answer, Updated, ActiveLimitExceeded}
use Rattle.definition.specs.Steps.{revise, change, retire, updated_by, new_alarm, store, store_new, raise_at, raise, clear_at, clear, action_answer, acted_on, act, plain_at, plain, on_entry, round, retire_due, expire, lift_over, lift}
use Rattle.definition.specs.Perform.{in_record}
use Rattle.definition.specs.Clauses.LegalFields.{Time, Maybe, LegalRaise}
use Rattle.definition.proofs.Laws.Steps.ChangedLegal.{past, updated_legal, new_legal, cleared_legal, acted_legal, expired_legal, lifted_legal}
use Rattle.definition.proofs.Laws.Steps.Answers.{Said, tells, said}
use Rattle.definition.proofs.Laws.Book.Occurrences.{length_without}
use Rattle.definition.proofs.Laws.Steps.PairedChains.{nothing, picked_left, picked_length, those_each, picked_each, length_each}
use Rattle.definition.proofs.Laws.Steps.SideBySide.{Related, Only, give_related, look_related, refuse_related, cond_related, pre_related, known_related, never_related, post_related, bind_related, then_related, test_related}
use Rattle.definition.proofs.Laws.Steps.Alike.{Likeness, BothLegal, On, Told, worded, Lasting, found_legal, change_active_lem, free_active_lem, BelowLimit, add_active_lem, pick, search_like}

-- what is legal on the active chain is so in history
both_past : {a a' : Alarm} → BothLegal 3 a a' → BothLegal 5 a a'
both_past {a} {a'} (g, g') = (past a g, past a' g')

module _ {k : Likeness} (l : Lasting k) where
  -- ---- the steps

  pub settled : {n : ℕ} {d d' : List (Entry Alarm)} {s t : Station} → On k n d d' s t → On k (length s.active) [] [] s t
  settled p = record { legal = p.legal; legal' = p.legal'; size = refl; limit = p.limit; pairs = p.pairs; picked = nothing; rest = p.rest }

  resized : {n m : ℕ} {d d' : List (Entry Alarm)} {s t : Station} → n ≡ m → On k n d d' s t → On k m d d' s t
  resized e p = record { legal = p.legal; legal' = p.legal'; size = p.size ∙ e; limit = p.limit; pairs = p.pairs; picked = p.picked; rest = p.rest }

  pub told : {i m n : ℕ} {d d' : List (Entry Alarm)} {x x' : Answer} → k.Says x x' → (said x).kind ≡ i → n + (said x).came ≡ m + (said x).went → (s t : Station) → On k m d d' s t → Told k i n x x' s t
  told h j e s t p = record { says = h; kind = j; even = e ∙ omega (arith, p.size); on = settled p }

  -- an answer that says nothing of the active chain
  abbrev Neutral : Answer → Type 0
  Neutral x = said x ≡ tells 0 0 0

  pub quiet : {n : ℕ} {d d' : List (Entry Alarm)} {x x' : Answer} → k.Says x x' → Neutral x → Related (On k n d d') (Told k 0 n) (give x) (give x')
  quiet h q = give_related (told h (ap (λ (z : Said). z.kind) q) (omega (arith, ap (λ (z : Said). z.came) q, ap (λ (z : Said). z.went) q)))

  revise_like : {n : ℕ} {e e' : Entry Alarm} {d d' : List (Entry Alarm)} {a a' : Alarm} → k.Pair (entry e.index a) (entry e'.index a') → BothLegal 3 a a' →
      Related (On k n (e ∷ d) (e' ∷ d')) (Only (On k n d d')) (revise e.index a) (revise e'.index a')
  unfolding revise
  revise_like h g = then_related (change_active_lem l h g) (l.files (l.pair_past h) (both_past g))

  pub change_like : {n : ℕ} {e e' : Entry Alarm} {a a' : Alarm} (answer : Alarm → Answer) → k.Pair (entry e.index a) (entry e'.index a') → BothLegal 3 a a' → k.Says (answer a) (answer a') → Neutral (answer a) →
      Related (On k n (e ∷ []) (e' ∷ [])) (Told k 0 n) (change answer e.index a) (change answer e'.index a')
  unfolding change
  change_like answer h g q z = then_related (revise_like h g) (quiet q z)

  retire_like : {n : ℕ} {e e' : Entry Alarm} {d d' : List (Entry Alarm)} {a a' : Alarm} → k.Past a a' → BothLegal 5 a a' →
      Related (On k (suc n) (e ∷ d) (e' ∷ d')) (Only (On k n d d')) (retire e.index a) (retire e'.index a')
  unfolding retire
  retire_like h g = then_related (free_active_lem l) (l.files h g)

  -- ---- raise

  store_like : {n : ℕ} {a a' : Alarm} → k.New a a' → BothLegal 3 a a' → Related (BelowLimit l n) (Told k 0 n) (store a) (store a')
  unfolding store
  store_like {n} h g = then_related (add_active_lem l h g) (then_related (l.files (l.new_past h) (both_past g)) (give_related (told (l.says_raised h) refl (omega arith))))

  module _ {c : RaiseValue} {w : Bytes} {d : Option Bytes} (r : k.Raise c (worded w d c)) (f : LegalRaise c) (f' : LegalRaise (worded w d c)) where
    store_new_like : {n : ℕ} (i : Bytes) → length i ≡ 16 → Related (BelowLimit l n) (Told k 0 n) (store_new (new_alarm c i)) (store_new (new_alarm (worded w d c) i))
    unfolding store_new new_alarm
    store_new_like i h = search_like l _ _ (has_id c.head.id) (λ e e' q. ap (same c.head.id) (l.ids q)) (λ s t p. p.0) (store_like (l.news i h r) (new_legal c i f h, new_legal _ i f' h)) (λ e e' q g. refuse_related tt)

    raise_new_like : {n : ℕ} (i : Bytes) → length i ≡ 16 → Related (On k n [] []) (Told k 0 n) (raise_at c i none) (raise_at (worded w d c) i none)
    unfolding raise_at
    raise_new_like i h =
        test_related _ (λ s t p. rw (p.limit, length_each k.Pair s.active t.active p.pairs))
        (look_related (λ s t (p, q). told (subst (λ (a : ℕ). k.Says (ActiveLimitExceeded i s.limit_a) (ActiveLimitExceeded i a)) p.limit (l.says_same _)) refl (omega arith) s t p))
        (pre_related (λ s t (p, q). (p, omega (arith, leb-false s.limit_a (length s.active) q, p.size))) (store_new_like i h))

    pub raise_like : {n : ℕ} → Related (On k n [] []) (Told k 0 n) (raise c) (raise (worded w d c))
    unfolding raise raise_at updated_by
    raise_like =
        let i = key_of c.head.type c.key in
        search_like l _ _ (has_key i) (λ e e' q. ap (same i) (l.keys q)) (λ s t p. p) (raise_new_like i (length_key _ _)) (λ e e' q g.
        change_like Updated (l.updates r q) (updated_legal c e.content f g.0, updated_legal (worded w d c) e'.content f' g.1) (l.says_updated (l.updates r q)) refl)

  -- ---- clear

  clear_at_like : {n : ℕ} (c : ClearValue) → Time c.time → (i : Bytes) (e e' : Entry Alarm) → k.Pair e e' → BothLegal 3 e.content e'.content →
      Related (On k n (e ∷ []) (e' ∷ [])) (Told k 0 n) (clear_at c i (some e)) (clear_at c i (some e'))
  unfolding clear_at
  clear_at_like {n = suc n} c h i e e' q g =
      then_related (retire_like (l.clears c.time q) (cleared_legal c.time e.content h g.0, cleared_legal c.time e'.content h g.1))
      (rw (l.ids q) (give_related (told (l.says_same _) refl (omega arith))))
  clear_at_like {n = zero} c h i e e' q g = never_related (λ s t p. omega (arith, p.size, length_without e.index s.active (picked_left p.picked)))

  pub clear_like : {n : ℕ} (c : ClearValue) → Time c.time → Related (On k n [] []) (Told k 0 n) (clear c) (clear c)
  unfolding clear clear_at
  clear_like c h = let i = key_of c.type c.key in search_like l _ _ (has_key i) (λ e e' q. ap (same i) (l.keys q)) (λ s t p. p) (quiet (l.says_same _) refl) (clear_at_like c h i)

  -- ---- acknowledge and suppress

  pub act_like : {n : ℕ} (d : Deed) (t : ℕ) → Maybe Time (deed_end d) → Time t → (e e' : Entry Alarm) → k.Pair e e' → BothLegal 3 e.content e'.content →
      Related (On k n (e ∷ []) (e' ∷ [])) (Told k 0 n) (act d t e) (act d t e')
  unfolding act acted_on
  act_like d t z h e e' q g =
      let x = deed_action d in
      change_like (action_answer x) (l.acts d t q) (acted_legal d t e.content z h g.0, acted_legal d t e'.content z h g.1) (l.says_acted x (l.acts d t q)) (neutral x _)
    where
      neutral : (x : Action) (a : Alarm) → said (action_answer x a) ≡ tells 0 0 0
      neutral acknowledging a = refl
      neutral suppressing a = refl

  pub plain_like : {n : ℕ} (x : Action) (p : PlainValue) → Time p.time → Related (On k n [] []) (Told k 0 n) (plain x p) (plain x p)
  unfolding plain plain_at
  plain_like x p h =
      cond_related (eqb p.authorised 0) (quiet (l.says_same _) refl)
      (search_like l _ _ (has_id p.id) (λ e e' q. ap (same p.id) (l.ids q)) (λ s t q. q) (quiet (l.says_same _) refl) (act_like (untimed x) p.time tt h))

  -- ---- rounds along the active chain

  -- so many less than n
  abbrev Fewer : ℕ → ℕ → Station → Station → Type 0
  Fewer n m s t = On k (length s.active) [] [] s t × (length s.active + m ≡ n)

  -- a step of a round, which takes w alarms off the chain: one if it expires them, none if it changes them where they stand
  record Passes (w : ℕ) (m : Entry Alarm → Step (Unit {0})) : Type 0 where
    there : {n : ℕ} {e e' : Entry Alarm} {d d' : List (Entry Alarm)} {s t : Station} → On k n (e ∷ d) (e' ∷ d') s t → w ≤ n
    goes : {n : ℕ} {e e' : Entry Alarm} {d d' : List (Entry Alarm)} → k.Pair e e' → BothLegal 3 e.content e'.content →
        Related (On k (w + n) (e ∷ d) (e' ∷ d')) (Only (On k n d d')) (m e) (m e')

  module _ {w : ℕ} {m : Entry Alarm → Step (Unit {0})} (x : Passes w m) where
    each_like : {n : ℕ} (d d' : List (Entry Alarm)) → Related (On k n d d') (Only (Fewer n (w * length d))) (for_each d m) (for_each d' m)
    unfolding for_each
    each_like [] [] = give_related (λ s t p. (settled p, omega (arith, p.size)))
    each_like {n = n} (e ∷ d) (e' ∷ d') =
        known_related {F = (w ≤ n) × k.Pair e e' × BothLegal 3 e.content e'.content}
        (λ s t p. (x.there p, (picked_each k.Pair {d = e ∷ d} {d' = e' ∷ d'} p.picked p.pairs).0, found_legal p))
        (λ (h, q, g). pre_related (λ s t p. resized (omega arith) p)
        (then_related (x.goes {n = n - w} q g) (post_related (λ u v s t p. (p.0, omega (arith, p.1))) (each_like {n = n - w} d d'))))
    each_like [] (e ∷ d) = never_related (λ s t p. picked_each k.Pair {d = []} {d' = e ∷ d} p.picked p.pairs)
    each_like (e ∷ d) [] = never_related (λ s t p. picked_each k.Pair {d = e ∷ d} {d' = []} p.picked p.pairs)

    round_like : {i n : ℕ} (t : Alarm → Bool) (answer : ℕ → Answer) → ((e e' : Entry Alarm) → k.Pair e e' → t e.content ≡ t e'.content) →
        ((c : ℕ) → ((said (answer c)).kind ≡ i) × ((said (answer c)).came ≡ 0) × ((said (answer c)).went ≡ w * c)) → Related (On k n [] []) (Told k i n) (round t m answer) (round t m answer)
    unfolding round
    round_like {n = n} t answer f z =
        bind_related {Q = λ d d' s r. (length d ≡ length d') × On k n d d' s r}
        (look_related (λ s r p.
        let y = those_each k.Pair (on_entry t) f s.active r.active p.pairs in
        (picked_length y, pick l p y)))
        (λ d d'. known_related (λ s r p. p.0) (λ q. pre_related (λ s r p. p.1) (then_related (each_like d d')
        (rw q (give_related (λ s r p. record {
          says = l.says_same _;
          kind = (z (length d')).0;
          even = omega (arith, p.1, (z (length d')).1, (z (length d')).2);
          on = p.0;
        }))))))

  pub expire_like : {n : ℕ} (t : ℕ) → Time t → Related (On k n [] []) (Told k 7 n) (expire t) (expire t)
  unfolding expire
  expire_like t h =
      round_like {w = 1} {m = retire_due t} (record {
        there = λ {e = e} {s = s} p. omega (arith, p.size, length_without e.index s.active (picked_left p.picked));
        goes = λ {n = n} {e} {e'} q g. pre_related (λ s r p. resized (omega arith) p) (retire_like {n = n} {e = e} {e' = e'} (l.expires t q) (expired_legal t e.content h g.0, expired_legal t e'.content h g.1));
      }) _ _ (λ e e' q. l.due t q) (λ c. (refl, refl, omega arith))

  pub lift_like : {n : ℕ} (t : ℕ) → Time t → Related (On k n [] []) (Told k 0 n) (lift t) (lift t)
  unfolding lift
  lift_like t h =
      round_like {w = 0} {m = lift_over t} (record {
        there = λ p. omega arith;
        goes = λ {n = n} {e} {e'} q g. pre_related (λ s r p. resized (omega arith) p) (revise_like {n = n} {e = e} {e' = e'} (l.lifts t q) (lifted_legal t e.content h g.0, lifted_legal t e'.content h g.1));
      }) _ _ (λ e e' q. l.over t q) (λ c. (refl, refl, omega arith))

  -- ---- in a record's room

  pub in_record_like : {P : Station → Station → Type 0} {Q : Answer → Answer → Station → Station → Type 0} (n : ℕ) {m m' : Step Answer} → Related P Q m m' → Related P Q (in_record n m) (in_record n m')
  unfolding in_record
  in_record_like n x = cond_related (ltb n 1552) (refuse_related tt) x
