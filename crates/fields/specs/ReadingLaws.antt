-- How readings join. A row of fields gives its value by `step` after `step` and `done` at its end; it is refused by `step` after `step` and
-- then `stops`, at a field that is refused, or `fails`, at a test; `tested` passes a test. By `row_is` alone the check finds such a proof itself.
use Rattle.std.specs.Prelude.{ℕ, ◌≡◌, refl, Bool, true, false, cond, drop, Result, Ok, Err, IsErr, IsErrAnd}
use Rattle.std.proofs.Common.{ap, ◌∙◌, subst}
use Rattle.octets.specs.Bytes.{Bytes}
use Rattle.definition.specs.Reader.{Out, Reader, next, ◌>>=◌, give, refuse}
use Rattle.model.specs.declared.refusal.Refusal.{Refusal}
use Rattle.model.specs.Refusal.{refusal_number}
use Rattle.fields.specs.Reading.{Gives, Refuses}

-- ---- rows

-- what is read first, and what is read behind it
pub row_is : {A D : Type 0} (r : Reader A) (k : A → Reader D) (s : Bytes) → (◌>>=◌ r k) s ≡ next (r s) k
unfolding ◌>>=◌
row_is r k s = refl

module _ {A B D : Type 0} {s : Bytes} {i j : ℕ} {r : Reader B} {value : Bytes → A → B} {within : Bytes → A → Type 0} {a : A} where
  next_is : (k : B → Reader D) → Gives s i r value within a j → (◌>>=◌ r k) (drop i s) ≡ k (value s a) (drop j s)
  unfolding ◌>>=◌
  next_is k read = ap (λ (o : Out B). next o k) read.out

  -- a field, and a refusal behind it
  pub passes : {e : Refusal} (k : B → Reader D) → Gives s i r value within a j → Refuses s j (k (value s a)) e → Refuses s i (◌>>=◌ r k) e
  passes k read rest = record { out = next_is k read ∙ rest.out }

  -- a field, and what is read behind it
  pub step : {C : Type 0} {value' : Bytes → C → D} {within' : Bytes → C → Type 0} {b : C} {n : ℕ} (k : B → Reader D) → Gives s i r value within a j → Gives s j (k (value s a)) value' within' b n → Gives s i (◌>>=◌ r k) value' within' b n
  step k read rest = record { out = next_is k read ∙ rest.out; lies = rest.lies }

pub done : {A B : Type 0} {s : Bytes} {i : ℕ} {value : Bytes → A → B} {within : Bytes → A → Type 0} {a : A} → within s a → Gives s i (give (value s a)) value within a i
done w = record { out = refl; lies = w }

-- a test between two fields
pub tested : {A B : Type 0} {s : Bytes} {i j : ℕ} {r : Reader B} {value : Bytes → A → B} {within : Bytes → A → Type 0} {a : A} {ok : Bool} (n : ℕ) → ok ≡ true → Gives s i r value within a j → Gives s i (cond ok r (refuse n)) value within a j
tested n h read = rw h read

-- a field that is refused ends a row
pub stops : {A B : Type 0} {s : Bytes} {i : ℕ} {r : Reader A} {e : Refusal} (k : A → Reader B) → Refuses s i r e → Refuses s i (◌>>=◌ r k) e
unfolding ◌>>=◌
stops {A} k a = record { out = ap (λ (o : Out A). next o k) a.out }

-- and so does a test
pub fails : {B : Type 0} {s : Bytes} {i : ℕ} {ok : Bool} {e : Refusal} (r : Reader B) → ok ≡ false → Refuses s i (cond ok r (refuse (refusal_number e))) e
fails r h = record { out = rw h }

-- ---- the same call

module _ {A B : Type 0} {c d : Bytes} {i : ℕ} {r : Reader B} where
  -- the reading went on in the same call: what is read next is of it too
  pub along : {j : ℕ} {t : Bytes} {value : Bytes → A → B} {within : Bytes → A → Type 0} {a : A} → d ≡ c → Gives d i r value within a j × (t ≡ d) → Gives c i r value within a j × (t ≡ c)
  along {j} {t} {value} {within} {a} h read = subst (λ (x : Bytes). Gives x i r value within a j × (t ≡ x)) h read

pub along_refused : {B : Type 0} {c d : Bytes} {i : ℕ} {r : Reader B} {e : Refusal} → d ≡ c → Refuses d i r e → Refuses c i r e
along_refused h a = record { out = rw (← h) a.out }

-- a refusal, after which the reading is still of that call
pub along_stopped : {B : Type 0} {c d t : Bytes} {i : ℕ} {r : Reader B} {e : Refusal} → d ≡ c → Refuses d i r e × (t ≡ d) → Refuses c i r e × (t ≡ c)
along_stopped h a = (along_refused h a.0, a.1 ∙ h)

-- ---- what `?` hands on

pub handed : {A : Type 0} (res : Result A Refusal) {e : Refusal} → IsErr res × IsErrAnd res (λ (x : Refusal). x ≡ e) → res ≡ Err e
handed (Ok a) h = absurd h.1
handed (Err x) h = ap Err h.1
