-- First appearances: which ratings are the same, which are new among those seen, and how the first appearances go on from a place.
use Rattle.std.specs.Prelude.{ℕ, zero, suc, ◌+◌, ◌≤◌, ◌<◌, ◌≡◌, refl, List, [], ◌∷◌, ◌++◌, Bool, true, false, cond, eqb, length, take, drop}
use Rattle.std.proofs.Common.{sym, ap, ◌∙◌, append-nil, add-one, arith, eq-eqb, ne_eqb, eqb-true, eqb→eq, length-take, take-append-drop, drop_of_length-le, take-add, take-take}
use Rattle.std.proofs.lemmas.Bool.{eqb-false}
use Rattle.octets.specs.Bytes.{same}
use Rattle.octets.specs.BoolLaws.{both_left, both_right, fails, true_holds, holds}
use Rattle.octets.specs.SameLaws.{same→eq, same_refl}
use Rattle.definition.specs.Chain.{those}
use Rattle.definition.specs.Reports.{Rating, same_rating, firsts_from}
use Rattle.history.specs.CountLaws.{Counted, counted_next, counted_all}
use Rattle.metrics.specs.Meaning.{is_new, firsts_at}

-- ---- ratings that are the same are equal

pub same_is : (p q : Rating) → same_rating p q ≡ true → p ≡ q
same_is p q e =
    let t = true_holds (same_rating p q) e in
    let a = eqb→eq p.0 q.0 (both_left (eqb p.0 q.0) (same p.1 q.1) t) in
    let c = same→eq p.1 q.1 (both_right (eqb p.0 q.0) (same p.1 q.1) t) in
    λ i. (a i, c i)

pub same_self : (p : Rating) → same_rating p p ≡ true
same_self p = rw (eq-eqb p.0 p.0 refl) (same_refl p.1)

pub same_back : (p q : Rating) → same_rating p q ≡ true → same_rating q p ≡ true
same_back p q e = ap (λ (x : Rating). same_rating x p) (sym (same_is p q e)) ∙ same_self p

pub same_other : (p q : Rating) → same_rating p q ≡ false → same_rating q p ≡ false
same_other p q e = fails (same_rating q p) (λ t.
    let z : false ≡ true = sym e ∙ same_back q p (holds (same_rating q p) t) in
    true_holds false z)

-- ---- new among those seen

-- one more is seen, wherever it stands
insert_test : (f : Rating → Bool) (q : Rating) (a s : List Rating) →
    eqb (length (those f (a ++ (q ∷ s)))) 0 ≡ cond (f q) false (eqb (length (those f (a ++ s))) 0)
unfolding those
insert_test f q [] s = go (f q)
  where
    go : (t : Bool) → eqb (length (cond t (q ∷ those f s) (those f s))) 0 ≡ cond t false (eqb (length (those f s)) 0)
    go true = ne_eqb (suc (length (those f s))) 0 (λ e. omega arith)
    go false = refl
insert_test f q (x ∷ a) s = go (f x) (insert_test f q a s)
  where
    never : (n : ℕ) → eqb (suc n) 0 ≡ false
    never n = ne_eqb (suc n) 0 (λ e. omega arith)

    pick : (u : Bool) (n : ℕ) → false ≡ cond u false (eqb (suc n) 0)
    pick true n = refl
    pick false n = sym (never n)

    go : (t : Bool) → eqb (length (those f (a ++ (q ∷ s)))) 0 ≡ cond (f q) false (eqb (length (those f (a ++ s))) 0) →
        eqb (length (cond t (x ∷ those f (a ++ (q ∷ s))) (those f (a ++ (q ∷ s))))) 0
        ≡ cond (f q) false (eqb (length (cond t (x ∷ those f (a ++ s)) (those f (a ++ s)))) 0)
    go true h = never (length (those f (a ++ (q ∷ s)))) ∙ pick (f q) (length (those f (a ++ s)))
    go false h = h

pub new_among : (p q : Rating) (a s : List Rating) → is_new p (a ++ (q ∷ s)) ≡ cond (same_rating p q) false (is_new p (a ++ s))
new_among p q a s = insert_test (same_rating p) q a s

new_behind : (p q : Rating) (s : List Rating) → is_new p (s ++ (q ∷ [])) ≡ cond (same_rating p q) false (is_new p s)
new_behind p q s = new_among p q s [] ∙ ap (λ (x : List Rating). cond (same_rating p q) false (is_new p x)) (append-nil s)

pub new_first : (q : Rating) → is_new q [] ≡ true
unfolding those
new_first q = refl

-- what is seen stays so, and it is the same whether it is seen once or again
seen_more : (q : Rating) (a s : List Rating) → is_new q s ≡ false → is_new q (a ++ s) ≡ false
seen_more q [] s e = e
seen_more q (x ∷ a) s e = new_among q x [] (a ++ s) ∙ go (same_rating q x) (seen_more q a s e)
  where
    go : (t : Bool) → is_new q (a ++ s) ≡ false → cond t false (is_new q (a ++ s)) ≡ false
    go true h = refl
    go false h = h

seen_again : (p q : Rating) (s : List Rating) → is_new q s ≡ false → is_new p (q ∷ s) ≡ is_new p s
seen_again p q s e = new_among p q [] s ∙ go (same_rating p q) refl
  where
    go : (t : Bool) → same_rating p q ≡ t → cond t false (is_new p s) ≡ is_new p s
    go true d = sym e ∙ ap (λ (x : Rating). is_new x s) (sym (same_is p q d))
    go false d = refl

-- ---- first appearances of one list behind another

-- the order of those seen is no matter
firsts_alike : (l s s' : List Rating) → ((p : Rating) → is_new p s ≡ is_new p s') → firsts_from s l ≡ firsts_from s' l
unfolding firsts_from
firsts_alike [] s s' h = refl
firsts_alike (q ∷ l) s s' h = rw (h q) (go (is_new q s') (firsts_alike l (q ∷ s) (q ∷ s') more) (firsts_alike l s s' h))
  where
    more : (p : Rating) → is_new p (q ∷ s) ≡ is_new p (q ∷ s')
    more p = new_among p q [] s ∙ ap (cond (same_rating p q) false) (h p) ∙ sym (new_among p q [] s')

    go : (t : Bool) → firsts_from (q ∷ s) l ≡ firsts_from (q ∷ s') l → firsts_from s l ≡ firsts_from s' l →
        cond t (q ∷ firsts_from (q ∷ s) l) (firsts_from s l) ≡ cond t (q ∷ firsts_from (q ∷ s') l) (firsts_from s' l)
    go true new old = ap (◌∷◌ q) new
    go false new old = old

pub firsts_append : (s a c : List Rating) → firsts_from s (a ++ c) ≡ firsts_from s a ++ firsts_from (a ++ s) c
unfolding firsts_from
firsts_append s [] c = refl
firsts_append s (q ∷ a) c = go (is_new q s) refl (firsts_append (q ∷ s) a c) (firsts_append s a c)
  where
    new_way : firsts_from (a ++ (q ∷ s)) c ≡ firsts_from (q ∷ (a ++ s)) c
    new_way = firsts_alike c (a ++ (q ∷ s)) (q ∷ (a ++ s)) (λ p. new_among p q a s ∙ sym (new_among p q [] (a ++ s)))

    old_way : is_new q s ≡ false → firsts_from (a ++ s) c ≡ firsts_from (q ∷ (a ++ s)) c
    old_way e = firsts_alike c (a ++ s) (q ∷ (a ++ s)) (λ p. sym (seen_again p q (a ++ s) (seen_more q a s e)))

    go : (t : Bool) → is_new q s ≡ t → firsts_from (q ∷ s) (a ++ c) ≡ firsts_from (q ∷ s) a ++ firsts_from (a ++ (q ∷ s)) c →
        firsts_from s (a ++ c) ≡ firsts_from s a ++ firsts_from (a ++ s) c →
        cond (is_new q s) (q ∷ firsts_from (q ∷ s) (a ++ c)) (firsts_from s (a ++ c))
        ≡ cond (is_new q s) (q ∷ firsts_from (q ∷ s) a) (firsts_from s a) ++ firsts_from (q ∷ (a ++ s)) c
    go true e new old = rw e (ap (◌∷◌ q) (new ∙ ap (λ (x : List Rating). firsts_from (q ∷ s) a ++ x) new_way))
    go false e new old = rw e (old ∙ ap (λ (x : List Rating). firsts_from s a ++ x) (old_way e))

-- a rating is among the first appearances where it is among all
firsts_new : (q : Rating) (s l : List Rating) → is_new q s ≡ true → is_new q (firsts_from s l) ≡ is_new q l
unfolding firsts_from
firsts_new q s [] h = refl
firsts_new q s (x ∷ l) h = go (is_new x s) refl (same_rating q x) refl (λ g. firsts_new q (x ∷ s) l g) (firsts_new q s l h)
  where
    apart : is_new x s ≡ false → same_rating q x ≡ true → false ≡ true
    apart e d = sym e ∙ ap (λ (y : Rating). is_new y s) (sym (same_is q x d)) ∙ h

    go : (t : Bool) → is_new x s ≡ t → (u : Bool) → same_rating q x ≡ u → (is_new q (x ∷ s) ≡ true → is_new q (firsts_from (x ∷ s) l) ≡ is_new q l) →
        is_new q (firsts_from s l) ≡ is_new q l →
        is_new q (cond (is_new x s) (x ∷ firsts_from (x ∷ s) l) (firsts_from s l)) ≡ is_new q (x ∷ l)
    go true e true d new old = rw e (new_among q x [] (firsts_from (x ∷ s) l) ∙ rw d (sym (new_among q x [] l ∙ rw d)))
    go true e false d new old =
        rw e (new_among q x [] (firsts_from (x ∷ s) l) ∙ rw d (new (new_among q x [] s ∙ rw d h) ∙ sym (new_among q x [] l ∙ rw d)))
    go false e true d new old = absurd (true_holds false (apart e d))
    go false e false d new old = rw e (old ∙ sym (new_among q x [] l ∙ rw d))

-- one that is seen is not among them
pub seen_none : (q : Rating) (s l : List Rating) → is_new q s ≡ false → is_new q (firsts_from s l) ≡ true
unfolding firsts_from
seen_none q s [] h = new_first q
seen_none q s (x ∷ l) h = go (is_new x s) refl (same_rating q x) refl (seen_none q (x ∷ s) l) (seen_none q s l h)
  where
    go : (t : Bool) → is_new x s ≡ t → (u : Bool) → same_rating q x ≡ u → (is_new q (x ∷ s) ≡ false → is_new q (firsts_from (x ∷ s) l) ≡ true) →
        is_new q (firsts_from s l) ≡ true → is_new q (cond (is_new x s) (x ∷ firsts_from (x ∷ s) l) (firsts_from s l)) ≡ true
    go true e true d new old = absurd (true_holds false (sym h ∙ ap (λ (y : Rating). is_new y s) (same_is q x d) ∙ e))
    go true e false d new old = rw e (new_among q x [] (firsts_from (x ∷ s) l) ∙ rw d (new (new_among q x [] s ∙ rw d h)))
    go false e u d new old = rw e old

pub among_firsts : (q : Rating) (l : List Rating) → is_new q (firsts_from [] l) ≡ is_new q l
among_firsts q l = firsts_new q [] l (new_first q)

-- ---- place by place

pub take_next : (k : ℕ) (l : List Rating) (q : Rating) → drop k l ≡ q ∷ drop (k + 1) l → take (k + 1) l ≡ take k l ++ (q ∷ [])
take_next k l q here = take-add k 1 l ∙ ap (λ (d : List Rating). take k l ++ take 1 d) here

-- those of the first k places, and those behind
pub firsts_split : (k : ℕ) (l : List Rating) → firsts_from [] l ≡ firsts_from [] (take k l) ++ firsts_at k l
firsts_split k l =
    ap (firsts_from []) (sym (take-append-drop k l)) ∙ firsts_append [] (take k l) (drop k l)
    ∙ ap (λ (s : List Rating). firsts_from [] (take k l) ++ firsts_from s (drop k l)) (append-nil (take k l))

pub firsts_end : (k : ℕ) (l : List Rating) → drop k l ≡ [] → firsts_at k l ≡ []
unfolding firsts_from
firsts_end k l e = ap (firsts_from (take k l)) e

pub firsts_next : (k : ℕ) (l : List Rating) (q : Rating) → drop k l ≡ q ∷ drop (k + 1) l →
    firsts_at k l ≡ cond (is_new q (take k l)) (q ∷ firsts_at (k + 1) l) (firsts_at (k + 1) l)
unfolding firsts_from
firsts_next k l q here = ap (firsts_from (take k l)) here ∙ go (is_new q (take k l)) refl
  where
    on : firsts_at (k + 1) l ≡ firsts_from (q ∷ take k l) (drop (k + 1) l)
    on = ap (λ (s : List Rating). firsts_from s (drop (k + 1) l)) (take_next k l q here)
        ∙ firsts_alike (drop (k + 1) l) (take k l ++ (q ∷ [])) (q ∷ take k l) (λ p. new_behind p q (take k l) ∙ sym (new_among p q [] (take k l)))

    go : (t : Bool) → is_new q (take k l) ≡ t →
        cond (is_new q (take k l)) (q ∷ firsts_from (q ∷ take k l) (drop (k + 1) l)) (firsts_from (take k l) (drop (k + 1) l)) ≡ cond (is_new q (take k l)) (q ∷ firsts_at (k + 1) l) (firsts_at (k + 1) l)
    go true e = rw e (ap (◌∷◌ q) (sym on))
    go false e = rw e (sym (on ∙ firsts_alike (drop (k + 1) l) (q ∷ take k l) (take k l) (λ p. seen_again p q (take k l) e)))

-- ---- how often a rating stands at the first k places, and behind

pub those_both : (f : Rating → Bool) (a c : List Rating) → length (those f (a ++ c)) ≡ length (those f a) + length (those f c)
unfolding those
those_both f [] c = omega arith
those_both f (x ∷ a) c = go (f x) (those_both f a c)
  where
    go : (t : Bool) → length (those f (a ++ c)) ≡ length (those f a) + length (those f c) →
        length (cond t (x ∷ those f (a ++ c)) (those f (a ++ c))) ≡ length (cond t (x ∷ those f a) (those f a)) + length (those f c)
    go true h = omega arith
    go false h = h

those_split : (q : Rating) (k : ℕ) (l : List Rating) →
    length (those (same_rating q) l) ≡ length (those (same_rating q) (take k l)) + length (those (same_rating q) (drop k l))
those_split q k l = ap (λ (x : List Rating). length (those (same_rating q) x)) (sym (take-append-drop k l)) ∙ those_both (same_rating q) (take k l) (drop k l)

-- a rating that is new is counted from there on
pub counted_from : (q : Rating) (k : ℕ) (l : List Rating) → is_new q (take k l) ≡ true → Counted (same_rating q) l k 0
counted_from q k l e = record { few = omega arith; is = omega (arith, eqb-true (length (those (same_rating q) (take k l))) 0 e, those_split q k l) }

-- one that is seen at the first p places is no new one behind them
pub seen_later : (q : Rating) (p k : ℕ) (l : List Rating) → p ≤ k → is_new q (take p l) ≡ false → is_new q (take k l) ≡ false
seen_later q p k l h e =
    let f : is_new q (take p (take k l)) ≡ false = rw (take-take p k l h) e in
    ne_eqb (length (those (same_rating q) (take k l))) 0 (λ z. eqb-false (length (those (same_rating q) (take p (take k l)))) 0 f (omega (arith, those_split q p (take k l))))

-- ---- a walk along the first k places, at place j, that has not met q

abbrev pub Unmet : Rating → List Rating → ℕ → ℕ → Type 0
Unmet q l k j = Counted (same_rating q) (take k l) j 0

-- it may begin behind places that do not have q
pub unmet_from : (q : Rating) (l : List Rating) (k p : ℕ) → p ≤ k → is_new q (take p l) ≡ true → Unmet q l k p
unmet_from q l k p h e = counted_from q p (take k l) (rw (take-take p k l h) e)

place_take : (k j : ℕ) (l : List Rating) (a : Rating) → j < k → drop j l ≡ a ∷ drop (suc j) l → drop j (take k l) ≡ a ∷ drop (suc j) (take k l)
place_take zero j l a h e = absurd (omega arith)
place_take (suc k) zero [] a h e = absurd (let z : ◌≡◌ {A = ℕ} 0 1 = cc in omega arith)
place_take (suc k) (suc j) [] a h e = absurd (let z : ◌≡◌ {A = ℕ} 0 1 = cc in omega arith)
place_take (suc k) zero (r ∷ l) a h e =
    let d : r ≡ a = cc in
    ap (λ (x : Rating). x ∷ take k l) d
place_take (suc k) (suc j) (r ∷ l) a h e = place_take k j l a (omega arith) e

module _ (q : Rating) (l : List Rating) (k : ℕ) {j : ℕ} (u : Unmet q l k j) where
  module _ (h : j < k) (a : Rating) (here : drop j l ≡ a ∷ drop (j + 1) l) where
    in_front : drop j (take k l) ≡ a ∷ drop (j + 1) (take k l)
    in_front = place_take k j l a h (here ∙ ap (λ (n : ℕ). a ∷ drop n l) (add-one j)) ∙ ap (λ (n : ℕ). a ∷ drop n (take k l)) (sym (add-one j))

    pub unmet_next : same_rating q a ≡ false → Unmet q l k (j + 1)
    unmet_next e = counted_next u in_front (sym e) refl

    more : same_rating q a ≡ true → length (those (same_rating q) (drop j (take k l))) ≡ suc (length (those (same_rating q) (drop (j + 1) (take k l))))
    unfolding those
    more e = rw (in_front, e)

    pub met : same_rating q a ≡ true → is_new q (take k l) ≡ false
    met e = ne_eqb (length (those (same_rating q) (take k l))) 0 (λ z. omega (arith, u.is, more e))

  pub unmet_all : k ≤ j → is_new q (take k l) ≡ true
  unmet_all h = eq-eqb (length (those (same_rating q) (take k l))) 0 (sym (counted_all u (drop_of_length-le (take k l) {i = j} (omega (arith, length-take k l)))))
