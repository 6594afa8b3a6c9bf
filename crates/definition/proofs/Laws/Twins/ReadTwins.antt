-- Readers are local: what they read depends on no byte after it. So twin raises are read alike but for their texts and details. For the claim, and
-- for the reach (ReadApart).
use Rattle.std.specs.Prelude.{ℕ, ◌≡◌, refl, [], ◌∷◌, ◌++◌, Bool, true, false, cond, ◌&&◌, leb, eqb, length, take, drop}
use Rattle.std.proofs.Math.Path.{sym, ap}
use Rattle.std.proofs.Common.{◌∙◌, subst, append_assoc, arith, length-append, length-take, take-append-drop, take_at, drop_at, leb-true, le-leb}
use Rattle.std.proofs.lemmas.List.{append_cancel_right}
use Rattle.std.proofs.Math.Option.{Option, none, some}
use Rattle.octets.specs.Bytes.{Bytes, value}
use Rattle.definition.specs.Limits.{short_limit, cause_limit, region_limit, details_limit}
use Rattle.definition.specs.Utf8.{utf8}
use Rattle.definition.specs.Cause.{cause_of}
use Rattle.definition.specs.Value.{ObjectValue, KeyValue, RaiseHeadValue, RaiseValue, CallValue}
use Rattle.definition.specs.Reader.{Out, got, bad, Reader, next, ◌>>=◌, give, refuse, into, bytes, number, choice, blob, text, optional, cause_is, cause_text}
use Rattle.definition.specs.Parse.{name, pair, session_store, data_plane_queue, object_of, object, raise_head, places, key, raise_text, raise_body, named, raise_fields, fields_of, whole, parse_call}
use Rattle.definition.proofs.Laws.Twins.TwinSteps.{TwinCalls, alike, reworded}
use Rattle.definition.specs.Twins.{before_text, ReadRaise, TwinRaises, TwinCall, equal, raises}

-- ---- local: s begins with what r reads, and r reads the same before any other bytes

pub data LocalAt {A : Type 0} (r : Reader A) (s : Bytes) : Out A → Type 0 where
  reads : (p u : Bytes) (a : A) → s ≡ p ++ u → ((w : Bytes) → r (p ++ w) ≡ got a w) → LocalAt r s (got a u)
  faulty : {n : ℕ} → LocalAt r s (bad n)

pub record Local {A : Type 0} (r : Reader A) : Type 0 where
  pub local : (s : Bytes) → LocalAt r s (r s)

pub give_local : {A : Type 0} (a : A) → Local (give a)
give_local a = record { local = λ s. reads [] s a refl (λ w. refl) }

refuse_local : {A : Type 0} (n : ℕ) → Local {A = A} (refuse n)
refuse_local n = record { local = λ s. faulty }

cond_local : {A : Type 0} (b : Bool) (q r : Reader A) → Local q → Local r → Local (cond b q r)
cond_local true q r x y = x
cond_local false q r x y = y

module _ {A B : Type 0} (m : Reader A) (k : A → Reader B) (s : Bytes) where
  second : (p u : Bytes) (a : A) → s ≡ p ++ u → ((w : Bytes) → m (p ++ w) ≡ got a w) → {o : Out B} → LocalAt (k a) u o → LocalAt (◌>>=◌ m k) s o
  unfolding ◌>>=◌
  second p u a e h (reads q v b f g) =
      reads (p ++ q) v b (e ∙ ap (λ (x : Bytes). p ++ x) f ∙ sym (append_assoc p q v)) (λ w. rw (append_assoc p q w, h (q ++ w)) (g w))
  second p u a e h faulty = faulty

  follows : ((a : A) → Local (k a)) → {o : Out A} → LocalAt m s o → LocalAt (◌>>=◌ m k) s (next o k)
  follows l (reads p u a e h) = second p u a e h ((l a).local u)
  follows l faulty = faulty

pub bind_local : {A B : Type 0} (m : Reader A) (k : A → Reader B) → Local m → ((a : A) → Local (k a)) → Local (◌>>=◌ m k)
unfolding ◌>>=◌
bind_local m k p q = record { local = λ s. follows m k s q (p.local s) }

into_local : {A B : Type 0} (c : A → B) (r : Reader A) → Local r → Local (into c r)
unfolding into
into_local c r l = bind_local _ _ l (λ a. give_local (c a))

-- readers one after the other, however they are grouped
pub next_assoc : {A B C : Type 0} (o : Out A) (k : A → Reader B) (f : B → Reader C) → next (next o k) f ≡ next o (λ a u. next (k a u) f)
next_assoc (got a u) k f = refl
next_assoc (bad n) k f = refl

-- ---- the readers of a raise's fields

bytes_local : (n : ℕ) → Local (bytes n)
unfolding bytes
bytes_local n = record { local = λ s. go s (leb n (length s)) refl }
  where
    go : (s : Bytes) (b : Bool) → leb n (length s) ≡ b → LocalAt (bytes n) s (cond b (got (take n s) (drop n s)) (bad 24))
    go s true p =
        let l : length (take n s) ≡ n = length-take n s ∙ omega (arith, leb-true n (length s) p) in
        reads (take n s) (drop n s) (take n s) (sym (take-append-drop n s)) (λ w.
        rw (le-leb n (length (take n s ++ w)) (omega (arith, length-append (take n s) w)), take_at (take n s) w n l, drop_at (take n s) w n l))
    go s false p = faulty

pub number_local : (n : ℕ) → Local (number n)
unfolding number
number_local n = bind_local _ _ (bytes_local n) (λ b. give_local (value b))

choice_local : (lo hi : ℕ) → Local (choice lo hi)
unfolding choice
choice_local lo hi = bind_local _ _ (number_local 1) (λ b. cond_local (leb lo b && leb b hi) _ _ (give_local b) (refuse_local 25))

blob_local : (n : ℕ) → Local (blob n)
unfolding blob
blob_local n = bind_local _ _ (number_local 4) (λ k. cond_local (leb k n) _ _ (bytes_local k) (refuse_local 26))

optional_local : {A : Type 0} (r : Reader A) → Local r → Local (optional r)
unfolding optional
optional_local r l = bind_local _ _ (choice_local 0 1) (λ p. cond_local (eqb p 0) _ _ (give_local none) (bind_local _ _ l (λ t. give_local (some t))))

pub text_local : (n : ℕ) → Local (text n)
unfolding text
text_local n = bind_local _ _ (blob_local n) (λ t. cond_local (utf8 t) _ _ (give_local t) (refuse_local 27))

cause_is_local : (o : Option Bytes) → Local (cause_is o)
cause_is_local none = refuse_local 28
cause_is_local (some t) = give_local t

cause_text_local : Local cause_text
unfolding cause_text
cause_text_local = bind_local _ _ (text_local cause_limit) (λ t. cause_is_local (cause_of t))

name_local : Local name
name_local = text_local short_limit

pair_local : (kind : Bytes → Bytes → ObjectValue) → Local (pair kind)
unfolding pair
pair_local kind = bind_local _ _ name_local (λ a. bind_local _ _ name_local (λ b. give_local _))

object_of_local : (k : ℕ) → Local (object_of k)
unfolding object_of session_store data_plane_queue
object_of_local k =
    cond_local (eqb k 1) _ _ (pair_local _)
    (cond_local (eqb k 2) _ _ (pair_local _)
    (cond_local (eqb k 3) _ _ (pair_local _)
    (cond_local (eqb k 4) _ _ (bind_local _ _ name_local (λ a. bind_local _ _ (optional_local _ name_local) (λ s. give_local _)))
    (cond_local (eqb k 5) _ _ (into_local _ _ name_local)
    (cond_local (eqb k 6) _ _ (into_local _ _ name_local)
    (cond_local (eqb k 7) _ _ (into_local _ _ name_local)
    (bind_local _ _ name_local (λ a. bind_local _ _ name_local (λ b. bind_local _ _ (number_local 2) (λ q. give_local _))))))))))

object_local : Local object
unfolding object
object_local = bind_local _ _ (choice_local 1 8) object_of_local

places_local : Local places
unfolding places
places_local =
    bind_local _ _ (optional_local _ (text_local short_limit)) (λ t.
    bind_local _ _ (optional_local _ (text_local short_limit)) (λ s.
    bind_local _ _ (optional_local _ (text_local region_limit)) (λ r. give_local _)))

key_local : Local key
unfolding key
key_local = bind_local _ _ cause_text_local (λ c. bind_local _ _ object_local (λ o. bind_local _ _ places_local (λ p. give_local _)))

head_local : Local raise_head
unfolding raise_head
head_local =
    bind_local _ _ (number_local 8) (λ t. bind_local _ _ (text_local short_limit) (λ i. bind_local _ _ (text_local short_limit) (λ k.
    bind_local _ _ (choice_local 0 5) (λ v. give_local _))))

pub before_text_local : Local before_text
unfolding before_text
before_text_local =
    bind_local _ _ head_local (λ h. bind_local _ _ key_local (λ k. cond_local (named k.places.region) _ _ (give_local (h, k)) (refuse_local 29)))

-- what is read from p is read from it before other bytes
pub elsewhere : {A : Type 0} {m : Reader A} (p u : Bytes) (a : A) → {o : Out A} → LocalAt m (p ++ u) o → o ≡ got a u → (w : Bytes) → m (p ++ w) ≡ got a w
elsewhere {m = m} p u a (reads q v b e h) f w =
    let vu : v ≡ u = cc in
    let ba : b ≡ a = cc in
    let pq : p ≡ q = append_cancel_right p q u (e ∙ ap (λ (x : Bytes). q ++ x) vu) in
    rw pq (h w ∙ ap (λ z. got z w) ba)
elsewhere p u a faulty f w = cc

-- ---- twin raises

abbrev early : RaiseHeadValue → KeyValue → Reader (RaiseHeadValue × KeyValue)
early h k = cond (named k.places.region) (give (h, k)) (refuse 29)

abbrev late : RaiseHeadValue → KeyValue → Reader RaiseValue
late h k = cond (named k.places.region) (raise_body h k) (refuse 29)

abbrev texts : RaiseHeadValue × KeyValue → Reader RaiseValue
texts v = raise_body v.0 v.1

-- a raise's fields are those before the text, and then text and details
raise_splits : (s : Bytes) → raise_fields s ≡ next (before_text s) texts
unfolding raise_fields before_text ◌>>=◌
raise_splits s = sym (next_assoc (raise_head s) _ texts ∙ (λ i. next (raise_head s) (λ h u. (next_assoc (key u) (early h) texts ∙ (λ j. next (key u) (λ k w. last h k w (named k.places.region) j))) i)))
  where
    last : (h : RaiseHeadValue) (k : KeyValue) (u : Bytes) (b : Bool) →
        next {A = RaiseHeadValue × KeyValue} (cond b (give (h, k)) (refuse 29) u) texts ≡ cond b (raise_body h k) (refuse 29) u
    last h k u true = refl
    last h k u false = refl

-- text and details are put beside what was read before them
data Holds (h : RaiseHeadValue) (k : KeyValue) : Out RaiseValue → Type 0 where
  held : {r : RaiseValue} {u : Bytes} → r.head ≡ h → r.key ≡ k → Holds h k (got r u)
  none_held : {n : ℕ} → Holds h k (bad n)

body_holds : (h : RaiseHeadValue) (k : KeyValue) (s : Bytes) → Holds h k (raise_body h k s)
unfolding raise_body ◌>>=◌
body_holds h k s = go (raise_text s)
  where
    inner : (t : Bytes) (o : Out (Option Bytes)) → Holds h k (next o (λ d. give (record { head = h; key = k; text = t; details = d })))
    inner t (got d u) = held refl refl
    inner t (bad n) = none_held

    go : (o : Out Bytes) → Holds h k (next o (λ t. λ u. next (optional (blob details_limit) u) (λ d. give (record { head = h; key = k; text = t; details = d }))))
    go (got t u) = inner t (optional (blob details_limit) u)
    go (bad n) = none_held

same_raises : (r r' : RaiseValue) (u : Bytes) → r.head ≡ r'.head → r.key ≡ r'.key → TwinCalls (whole (got (CallValue.raise r) u)) (whole (got (CallValue.raise r') u))
same_raises r r' [] p q =
    subst (λ (c : RaiseValue). TwinCalls (CallValue.raise r) (CallValue.raise c)) (λ i. record { head = p i; key = q i; text = r'.text; details = r'.details }) (reworded r r'.text r'.details)
same_raises r r' (b ∷ u) p q = alike _

module _ (before after : Bytes) where
  -- what such a raise is read as
  raise_read : (texts : Bytes) (t : ReadRaise before texts after) → parse_call (1 ∷ (before ++ (texts ++ after))) ≡ whole (got (CallValue.raise t.raise) after)
  unfolding parse_call fields_of into ◌>>=◌
  raise_read texts t = rw (raise_splits (before ++ (texts ++ after)), t.before_read, t.texts_read)

  -- the fields before the text are read alike before other texts
  same_early : (texts texts' : Bytes) (t : ReadRaise before texts after) (t' : ReadRaise before texts' after) → t.early ≡ t'.early
  same_early texts texts' t t' =
      let s = before ++ (texts ++ after) in
      let other = elsewhere before (texts ++ after) t.early (before_text_local.local s) t.before_read (texts' ++ after) in
      cc

  held_by : (texts : Bytes) (t : ReadRaise before texts after) → (t.raise.head ≡ t.early.0) × (t.raise.key ≡ t.early.1)
  held_by texts t = go (body_holds t.early.0 t.early.1 (texts ++ after)) t.texts_read
    where
      go : {o : Out RaiseValue} → Holds t.early.0 t.early.1 o → o ≡ got t.raise after → (t.raise.head ≡ t.early.0) × (t.raise.key ≡ t.early.1)
      go (held {r} p q) e =
          let z : r ≡ t.raise = cc in
          (ap (λ (x : RaiseValue). x.head) (sym z) ∙ p, ap (λ (x : RaiseValue). x.key) (sym z) ∙ q)
      go none_held e = (cc, cc)

twin_raises : (b b' : Bytes) → TwinRaises b b' → TwinCalls (parse_call b) (parse_call b')
twin_raises b b' t =
    let e = same_early t.before t.after t.texts t.texts' t.read t.read' in
    let p = held_by t.before t.after t.texts t.read in
    let q = held_by t.before t.after t.texts' t.read' in
    rw (t.is, t.is', raise_read t.before t.after t.texts t.read, raise_read t.before t.after t.texts' t.read')
    (same_raises t.read.raise t.read'.raise t.after (p.0 ∙ ap (λ (v : RaiseHeadValue × KeyValue). v.0) e ∙ sym q.0) (p.1 ∙ ap (λ (v : RaiseHeadValue × KeyValue). v.1) e ∙ sym q.1))

-- twin calls are read alike but for text and details
pub twins_read : (b b' : Bytes) → TwinCall b b' → TwinCalls (parse_call b) (parse_call b')
twins_read b b' (equal p) = rw p (alike (parse_call b'))
twins_read b b' (raises t) = twin_raises b b' t
