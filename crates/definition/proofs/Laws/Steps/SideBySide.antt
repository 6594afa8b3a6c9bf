-- Two steps side by side: from stations that are P they end in values and stations that are Q, or are refused with the same number, which the
-- table has. One law for each way that steps are put together. For stations that are alike.
use Rattle.std.specs.Prelude.{ℕ, ◌≡◌, refl, Bool, true, false, cond}
use Rattle.std.proofs.Common.{subst}
use Rattle.definition.specs.Station.{Station, Outcome, done, stopped, Step, after, ◌>>=◌, ◌>>◌, give, refuse, look}
use Rattle.definition.specs.Numbers.{sound_refusals, Among}
use Rattle.definition.proofs.Laws.Steps.LegalMoves.{Ends, ok}

pub data Both {A B : Type 0} (Q : A → B → Station → Station → Type 0) : Outcome A → Outcome B → Type 0 where
  both : {a : A} {b : B} {s t : Station} → Q a b s t → Both Q (done a s) (done b t)
  neither : {n : ℕ} → Among n sound_refusals → Both Q (stopped n) (stopped n)

pub record Related {A B : Type 0} (P : Station → Station → Type 0) (Q : A → B → Station → Station → Type 0) (m : Step A) (m' : Step B) : Type 0 where
  pub from : (s t : Station) → P s t → Both Q (m s) (m' t)

-- the values do not matter
abbrev pub Only : (Station → Station → Type 0) → {A B : Type 0} → A → B → Station → Station → Type 0
Only R a b s t = R s t

module _ {A B : Type 0} {P : Station → Station → Type 0} {Q : A → B → Station → Station → Type 0} where
  pub give_related : {a : A} {b : B} → ((s t : Station) → P s t → Q a b s t) → Related P Q (give a) (give b)
  give_related h = record { from = λ s t p. both (h s t p) }

  pub look_related : {f : Station → A} {g : Station → B} → ((s t : Station) → P s t → Q (f s) (g t) s t) → Related P Q (look f) (look g)
  look_related h = record { from = λ s t p. both (h s t p) }

  pub refuse_related : {n : ℕ} → Among n sound_refusals → Related P Q (refuse n) (refuse n)
  refuse_related h = record { from = λ s t p. neither h }

  pub cond_related : (b : Bool) {m n : Step A} {m' n' : Step B} → Related P Q m m' → Related P Q n n' → Related P Q (cond b m n) (cond b m' n')
  cond_related true x y = x
  cond_related false x y = y

  pub cond_both : {b b' : Bool} {m n : Step A} {m' n' : Step B} → b ≡ b' → Related P Q m m' → Related P Q n n' → Related P Q (cond b m n) (cond b' m' n')
  cond_both {b} {m = m} {n} {m'} {n'} e x y = subst (λ (c : Bool). Related P Q (cond b m n) (cond c m' n')) e (cond_related b x y)

  pub pre_related : {P' : Station → Station → Type 0} {m : Step A} {m' : Step B} → ((s t : Station) → P s t → P' s t) → Related P' Q m m' → Related P Q m m'
  pre_related h x = record { from = λ s t p. x.from s t (h s t p) }

  pub post_related : {Q' : A → B → Station → Station → Type 0} {m : Step A} {m' : Step B} → ((a : A) (b : B) (s t : Station) → Q a b s t → Q' a b s t) → Related P Q m m' → Related P Q' m m'
  post_related {Q'} h x = record { from = λ s t p. go (x.from s t p) }
    where
      go : {o : Outcome A} {o' : Outcome B} → Both Q o o' → Both Q' o o'
      go (both {a} {b} {s} {t} q) = both (h a b s t q)
      go (neither n) = neither n

  -- what follows from P helps, and if nothing is P there is nothing to do
  pub known_related : {F : Type 0} {m : Step A} {m' : Step B} → ((s t : Station) → P s t → F) → (F → Related P Q m m') → Related P Q m m'
  known_related f h = record { from = λ s t p. (h (f s t p)).from s t p }

  pub never_related : {m : Step A} {m' : Step B} → ((s t : Station) → P s t → ⊥) → Related P Q m m'
  never_related h = record { from = λ s t p. absurd (h s t p) }

-- two steps that both end, each by itself
pub both_ends : {A B : Type 0} {F : A → Station → Type 0} {G : B → Station → Type 0} {Q : A → B → Station → Station → Type 0} {o : Outcome A} {o' : Outcome B} →
    Ends F o → Ends G o' → ((a : A) (b : B) (s t : Station) → F a s → G b t → Q a b s t) → Both Q o o'
both_ends (ok {a} {t = s} f) (ok {a = b} {t} g) h = both (h a b s t f g)

-- what holds of the stations, if both are done
abbrev pub Match : {A B : Type 0} → (Station → Station → Type 0) → Outcome A → Outcome B → Type 0
Match R (done a s) (done b t) = R s t
Match R (done a s) (stopped n) = Unit {0}
Match R (stopped n) o = Unit {0}

pub meet : {F G : Unit {0} → Station → Type 0} {R S : Station → Station → Type 0} {o o' : Outcome (Unit {0})} → Ends F o → Ends G o' → Match R o o' →
    ((s t : Station) → F tt s → G tt t → R s t → S s t) → Both (Only S) o o'
meet (ok {t = s} f) (ok {t} g) r h = both (h s t f g r)

module _ {A B C D : Type 0} {Q : A → B → Station → Station → Type 0} {S : C → D → Station → Station → Type 0} where
  pub after_both : (k : A → Step C) (k' : B → Step D) → ((a : A) (b : B) → Related (Q a b) S (k a) (k' b)) → {o : Outcome A} {o' : Outcome B} →
      Both Q o o' → Both S (after o k) (after o' k')
  after_both k k' h (both {a} {b} {s} {t} q) = (h a b).from s t q
  after_both k k' h (neither n) = neither n

  pub bind_related : {P : Station → Station → Type 0} {m : Step A} {m' : Step B} {k : A → Step C} {k' : B → Step D} → Related P Q m m' → ((a : A) (b : B) → Related (Q a b) S (k a) (k' b)) →
      Related P S (◌>>=◌ m k) (◌>>=◌ m' k')
  unfolding ◌>>=◌
  bind_related {k = k} {k'} x h = record { from = λ s t p. after_both k k' h (x.from s t p) }

pub then_related : {C D : Type 0} {P R : Station → Station → Type 0} {S : C → D → Station → Station → Type 0} {m m' : Step (Unit {0})} {k : Step C} {k' : Step D} →
    Related P (Only R) m m' → Related R S k k' → Related P S (◌>>◌ m k) (◌>>◌ m' k')
then_related x y = bind_related x (λ u v. y)

-- a test that comes out the same on both
pub test_related : {A B : Type 0} {P : Station → Station → Type 0} {Q : A → B → Station → Station → Type 0} {m n : Step A} {m' n' : Step B} (f : Station → Bool) →
    ((s t : Station) → P s t → f s ≡ f t) → Related (λ s t. P s t × (f s ≡ true)) Q m m' → Related (λ s t. P s t × (f s ≡ false)) Q n n' →
    Related P Q (◌>>=◌ (look f) (λ b. cond b m n)) (◌>>=◌ (look f) (λ b. cond b m' n'))
unfolding ◌>>=◌
test_related {P = P} {Q} {m} {n} {m'} {n'} f e x y = record { from = λ s t p. subst (λ (b : Bool). Both Q (cond (f s) m n s) (cond b m' n' t)) (e s t p) (go s t p (f s) refl) }
  where
    go : (s t : Station) → P s t → (b : Bool) → f s ≡ b → Both Q (cond b m n s) (cond b m' n' t)
    go s t p true h = x.from s t (p, h)
    go s t p false h = y.from s t (p, h)
