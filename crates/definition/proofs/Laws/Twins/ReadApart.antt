-- M-113: two raises' bytes that are equal but for a legal severity are read as raises that are equal but for it, or refused alike. For ReachHolds.
use Rattle.std.specs.Prelude.{ℕ, ◌≤◌, ◌≡◌, refl, [], ◌∷◌, ◌++◌, Bool, cond, length}
use Rattle.std.proofs.Common.{sym, ap, ◌∙◌, arith, zero-add, le-leb}
use Rattle.std.proofs.Math.Bool.{true, false}
use Rattle.octets.specs.Bytes.{Bytes, value_from}
use Rattle.definition.specs.Limits.{short_limit, details_limit}
use Rattle.definition.specs.Value.{RaiseHeadValue, KeyValue, RaiseValue, CallValue}
use Rattle.definition.specs.Reader.{Out, got, bad, Reader, next, ◌>>=◌, give, refuse, into, bytes, number, choice, blob, text, optional}
use Rattle.definition.specs.Parse.{raise_head, key, raise_text, raise_body, named, raise_fields, fields_of, whole, parse_call}
use Rattle.definition.specs.Reach.{before_severity, SeverityApart}
use Rattle.definition.proofs.Laws.Twins.ReadTwins.{next_assoc, Local, give_local, bind_local, number_local, text_local, elsewhere}
use Rattle.definition.proofs.Laws.Twins.NearSteps.{raise_with}

-- the same call, or a raise of severity v and the same with v'
pub data ReadApart (v v' : ℕ) : CallValue → CallValue → Type 0 where
  same : (c : CallValue) → ReadApart v v' c c
  raises : (c : RaiseValue) → c.head.severity ≡ v → ReadApart v v' (CallValue.raise c) (CallValue.raise (raise_with v' c))

before_local : Local before_severity
unfolding before_severity
before_local = bind_local _ _ (number_local 8) (λ t. bind_local _ _ (text_local short_limit) (λ i. bind_local _ _ (text_local short_limit) (λ y. give_local _)))

-- ---- the fields before the key

abbrev head_with : ℕ × Bytes × Bytes → ℕ → RaiseHeadValue
head_with f v = record { time = f.0; id = f.1; type = f.2; severity = v }

abbrev rest : ℕ × Bytes × Bytes → Reader RaiseHeadValue
rest f u = next (choice 0 5 u) (λ v. give (head_with f v))

-- behind time and id
abbrev typed : ℕ → Bytes → Reader (ℕ × Bytes × Bytes)
typed t d w = next (text short_limit w) (λ y. give (t, d, y))

head_splits : (s : Bytes) → raise_head s ≡ next (before_severity s) rest
unfolding raise_head before_severity ◌>>=◌
head_splits s =
    sym (next_assoc (number 8 s) _ rest ∙ (λ i. next (number 8 s) (λ t u.
    (next_assoc (text short_limit u) (typed t) rest ∙ (λ j. next (text short_limit u) (λ d w. next_assoc (text short_limit w) (λ y. give (t, d, y)) rest j))) i)))

severity_read : (v : ℕ) (u : Bytes) → v ≤ 5 → choice 0 5 (v ∷ u) ≡ got v u
unfolding choice number bytes value_from ◌>>=◌
severity_read v u h = rw (le-leb 1 (length (v ∷ u)) (omega arith), zero-add v, le-leb 0 v (omega arith), le-leb v 5 h)

head_read : (s u : Bytes) (v : ℕ) (f : ℕ × Bytes × Bytes) → v ≤ 5 → before_severity s ≡ got f (v ∷ u) → raise_head s ≡ got (head_with f v) u
head_read s u v f h p = head_splits s ∙ ap (λ o. next o rest) p ∙ ap (λ o. next o (λ w. give (head_with f w))) (severity_read v u h)

-- ---- the fields behind it: what is read of them does not hang on the severity

-- values that are R, with the same bytes left; or the same fault
data BothRead {A : Type 0} (R : A → A → Type 0) : Out A → Out A → Type 0 where
  read : {a a' : A} {u : Bytes} → R a a' → BothRead R (got a u) (got a' u)
  faulty : {n : ℕ} → BothRead R (bad n) (bad n)

then_read : {A B : Type 0} {R : B → B → Type 0} (o : Out A) (k k' : A → Reader B) → ((a : A) (u : Bytes) → BothRead R (k a u) (k' a u)) → BothRead R (next o k) (next o k')
then_read (got a u) k k' h = h a u
then_read (bad n) k k' h = faulty

abbrev behind : RaiseHeadValue → Reader RaiseValue
behind h u = next (key u) (λ k. cond (named k.places.region) (raise_body h k) (refuse 29))

abbrev as_raise : Out RaiseValue → CallValue
as_raise o = whole (next o (λ r. give (CallValue.raise r)))

module _ (v v' : ℕ) where
  abbrev RaisesApart : RaiseValue → RaiseValue → Type 0
  RaisesApart c c' = (c.head.severity ≡ v) × (c' ≡ raise_with v' c)

  behind_apart : (f : ℕ × Bytes × Bytes) (u : Bytes) → BothRead RaisesApart (behind (head_with f v) u) (behind (head_with f v') u)
  unfolding raise_body ◌>>=◌
  behind_apart f u = then_read (key u) _ _ (λ k w. go k w (named k.places.region))
    where
      go : (k : KeyValue) (w : Bytes) (b : Bool) → BothRead RaisesApart (cond b (raise_body (head_with f v) k) (refuse 29) w) (cond b (raise_body (head_with f v') k) (refuse 29) w)
      go k w true = then_read (raise_text w) _ _ (λ t x. then_read (optional (blob details_limit) x) _ _ (λ d y. read (refl, refl)))
      go k w false = faulty

  as_raises : {o o' : Out RaiseValue} → BothRead RaisesApart o o' → ReadApart v v' (as_raise o) (as_raise o')
  as_raises (read {a = c} {u = []} (p, q)) = rw q (raises c p)
  as_raises (read {u = b ∷ u} h) = same _
  as_raises faulty = same _

raise_read : (s u : Bytes) (h : RaiseHeadValue) → raise_head s ≡ got h u → parse_call (1 ∷ s) ≡ as_raise (behind h u)
unfolding parse_call fields_of raise_fields into ◌>>=◌
raise_read s u h p = rw p

pub apart_read : (v v' : ℕ) (b b' : Bytes) → SeverityApart v v' b b' → ReadApart v v' (parse_call b) (parse_call b')
apart_read v v' b b' t =
    let s = t.before ++ (v ∷ t.after) in
    let s' = t.before ++ (v' ∷ t.after) in
    let other = elsewhere t.before (v ∷ t.after) t.fields (before_local.local s) t.read (v' ∷ t.after) in
    rw (
      t.is,
      t.is',
      raise_read s t.after _ (head_read s t.after v t.fields t.legal t.read),
      raise_read s' t.after _ (head_read s' t.after v' t.fields t.legal' other),
    ) (as_raises v v' (behind_apart v v' t.fields t.after))
