-- What each reader of a call's fields gives is legal, and its refusals are the call's of the table. For whole calls (ParsedLegal).
use Rattle.std.specs.Prelude.{ℕ, ◌^◌, ◌≤◌, ◌<◌, ◌≡◌, refl, [], ◌∷◌, Bool, true, false, cond, ◌&&◌, ◌||◌, T, leb, eqb, length, take, drop}
use Rattle.std.proofs.Common.{◌∙◌, arith, length-take, leb-true}
use Rattle.std.proofs.Math.Option.{Option, none, some}
use Rattle.octets.specs.Bytes.{Bytes, Octets}
use Rattle.octets.specs.BoolLaws.{both_right, holds, true_holds}
use Rattle.octets.specs.NumberLaws.{octets_take, octets_drop, value_lt}
use Rattle.definition.specs.Limits.{short_limit, cause_limit, region_limit, text_limit, details_limit, code_point_limit}
use Rattle.definition.specs.Utf8.{utf8, code_points, at_most}
use Rattle.definition.specs.Cause.{cause_of}
use Rattle.definition.proofs.Laws.Text.Cause.{cause_stored, cause_length, cause_utf8}
use Rattle.definition.specs.Value.{ObjectValue, PlacesValue, KeyValue, RaiseHeadValue, ScopeValue, ActorValue, RequestValue}
use Rattle.definition.specs.Reader.{Out, got, bad, Reader, next, ◌>>=◌, give, refuse, into, bytes, number, choice, blob, text, optional, cause_is, cause_text}
use Rattle.definition.specs.Parse.{pair, session_store, data_plane_queue, object_of, object, scope_of, scope, raise_head, places, key, raise_text, raise_body, named, raise_fields, clear_fields, plain_fields, actor, request, verdict, policy_from, policy_fields, severity_or_all}
use Rattle.definition.specs.Numbers.{call_refusals, Among}
use Rattle.definition.specs.Clauses.LegalFields.{Time, Maybe, BlobOf, TextOf, CauseOf, ObjectOf, LegalKey, LegalScope, LegalRaise, LegalPolicy}

-- ---- a reader that gives a P of bytes, or refuses with one of the call's numbers

pub data Given {A : Type 0} (P : A → Type 0) : Out A → Type 0 where
  gave : {a : A} {u : Bytes} → P a → Octets u → Given P (got a u)
  refuses : {n : ℕ} → Among n call_refusals → Given P (bad n)

pub record Reads {A : Type 0} (P : A → Type 0) (r : Reader A) : Type 0 where
  pub reads : (s : Bytes) → Octets s → Given P (r s)

pub give_reads : {A : Type 0} (P : A → Type 0) (a : A) → P a → Reads P (give a)
give_reads P a p = record { reads = λ s o. gave p o }

pub refuse_reads : {A : Type 0} {P : A → Type 0} (n : ℕ) → Among n call_refusals → Reads P (refuse n)
refuse_reads n h = record { reads = λ s o. refuses h }

pub if_reads : {A : Type 0} {P : A → Type 0} (b : Bool) (q r : Reader A) → (b ≡ true → Reads P q) → (b ≡ false → Reads P r) → Reads P (cond b q r)
if_reads true q r x y = x refl
if_reads false q r x y = y refl

module _ {A B : Type 0} {P : A → Type 0} {Q : B → Type 0} (m : Reader A) (k : A → Reader B) where
  then_given : ((a : A) → P a → Reads Q (k a)) → {o : Out A} → Given P o → Given Q (next o k)
  then_given q (gave {a} {u} p o) = (q a p).reads u o
  then_given q (refuses h) = refuses h

  pub bind_reads : Reads P m → ((a : A) → P a → Reads Q (k a)) → Reads Q (◌>>=◌ m k)
  unfolding ◌>>=◌
  bind_reads p q = record { reads = λ s o. then_given q (p.reads s o) }

pub into_reads : {A B : Type 0} {P : A → Type 0} (Q : B → Type 0) (c : A → B) (r : Reader A) → Reads P r → ((a : A) → P a → Q (c a)) → Reads Q (into c r)
unfolding into
into_reads Q c r p q = bind_reads _ _ p (λ a h. give_reads Q (c a) (q a h))

-- ---- one field

abbrev Part : ℕ → Bytes → Type 0
Part n v = (length v ≡ n) × Octets v

bytes_reads : (n : ℕ) → Reads (Part n) (bytes n)
unfolding bytes
bytes_reads n = record { reads = λ s o. go s o (leb n (length s)) refl }
  where
    go : (s : Bytes) → Octets s → (b : Bool) → leb n (length s) ≡ b → Given (Part n) (cond b (got (take n s) (drop n s)) (bad 24))
    go s o true p = gave (length-take n s ∙ omega (arith, leb-true n (length s) p), octets_take n s o) (octets_drop n s o)
    go s o false p = refuses {n = 24} tt

pub number_reads : (n : ℕ) → Reads (λ v. v < 256 ^ n) (number n)
unfolding number
number_reads n = bind_reads _ _ (bytes_reads n) (λ b p. give_reads _ _ (rw (← p.0) (value_lt b p.1)))

choice_reads : (lo hi : ℕ) → Reads (λ v. v ≤ hi) (choice lo hi)
unfolding choice
choice_reads lo hi = bind_reads _ _ (number_reads 1) (λ b p. if_reads (leb lo b && leb b hi) _ _
    (λ e. give_reads _ b (leb-true b hi (holds _ (both_right (leb lo b) (leb b hi) (true_holds _ e))))) (λ e. refuse_reads 25 tt))

pub blob_reads : (n : ℕ) → Reads (BlobOf n) (blob n)
unfolding blob
blob_reads n = bind_reads _ _ (number_reads 4) (λ k p. if_reads (leb k n) _ _ (λ e. fits k (leb-true k n e)) (λ e. refuse_reads 26 tt))
  where
    weaker : {k : ℕ} → k ≤ n → {o : Out Bytes} → Given (Part k) o → Given (BlobOf n) o
    weaker h (gave {a} p u) = gave {a = a} (omega (arith, p.0)) u
    weaker h (refuses p) = refuses p

    fits : (k : ℕ) → k ≤ n → Reads (BlobOf n) (bytes k)
    fits k h = record { reads = λ s o. weaker h ((bytes_reads k).reads s o) }

text_reads : (n : ℕ) → Reads (TextOf n) (text n)
unfolding text
text_reads n = bind_reads _ _ (blob_reads n) (λ t p. if_reads (utf8 t) _ _ (λ e. give_reads (TextOf n) t (p, e)) (λ e. refuse_reads 27 tt))

pub optional_reads : {A : Type 0} (P : A → Type 0) (r : Reader A) → Reads P r → Reads (Maybe P) (optional r)
unfolding optional
optional_reads P r l = bind_reads _ _ (choice_reads 0 1) (λ p h. if_reads (eqb p 0) _ _
    (λ e. give_reads (Maybe P) none tt) (λ e. bind_reads _ _ l (λ t q. give_reads (Maybe P) (some t) q)))

pub option_reads : (n : ℕ) → Reads (Maybe (TextOf n)) (optional (text n))
option_reads n = optional_reads (TextOf n) (text n) (text_reads n)

cause_is_reads : (t : Bytes) → TextOf cause_limit t → (o : Option Bytes) → cause_of t ≡ o → Reads CauseOf (cause_is o)
cause_is_reads t h none p = refuse_reads 28 tt
cause_is_reads t h (some c) p =
    give_reads CauseOf c ((omega (arith, h.0, cause_length t c p), cause_utf8 t c p h.1), cause_stored t c p)

cause_text_reads : Reads CauseOf cause_text
unfolding cause_text
cause_text_reads = bind_reads _ _ (text_reads cause_limit) (λ t p. cause_is_reads t p (cause_of t) refl)

-- ---- objects, scopes and keys

pair_reads : (kind : Bytes → Bytes → ObjectValue) → ((a b : Bytes) → TextOf short_limit a → TextOf short_limit b → ObjectOf (kind a b)) → Reads ObjectOf (pair kind)
unfolding pair
pair_reads kind h = bind_reads _ _ (text_reads short_limit) (λ a p. bind_reads _ _ (text_reads short_limit) (λ b q. give_reads ObjectOf _ (h a b p q)))

session_store_reads : Reads ObjectOf session_store
unfolding session_store
session_store_reads = bind_reads _ _ (text_reads short_limit) (λ a p. bind_reads _ _ (option_reads short_limit) (λ b q. give_reads ObjectOf _ (p, q)))

data_plane_queue_reads : Reads ObjectOf data_plane_queue
unfolding data_plane_queue
data_plane_queue_reads =
    bind_reads _ _ (text_reads short_limit) (λ a p. bind_reads _ _ (text_reads short_limit) (λ b q.
    bind_reads _ _ (number_reads 2) (λ n r. give_reads ObjectOf _ (p, q, r))))

object_of_reads : (k : ℕ) → Reads ObjectOf (object_of k)
unfolding object_of
object_of_reads k =
    if_reads (eqb k 1) _ _ (λ e. pair_reads ObjectValue.nf_instance (λ a b p q. (p, q))) (λ e.
    if_reads (eqb k 2) _ _ (λ e. pair_reads ObjectValue.interface (λ a b p q. (p, q))) (λ e.
    if_reads (eqb k 3) _ _ (λ e. pair_reads ObjectValue.peer (λ a b p q. (p, q))) (λ e.
    if_reads (eqb k 4) _ _ (λ e. session_store_reads) (λ e.
    if_reads (eqb k 5) _ _ (λ e. into_reads ObjectOf ObjectValue.slice _ (text_reads short_limit) (λ a p. p)) (λ e.
    if_reads (eqb k 6) _ _ (λ e. into_reads ObjectOf ObjectValue.tenant _ (text_reads short_limit) (λ a p. p)) (λ e.
    if_reads (eqb k 7) _ _ (λ e. into_reads ObjectOf ObjectValue.certificate _ (text_reads short_limit) (λ a p. p)) (λ e.
    data_plane_queue_reads)))))))

object_reads : Reads ObjectOf object
unfolding object
object_reads = bind_reads _ _ (choice_reads 1 8) (λ k p. object_of_reads k)

scope_of_reads : (k : ℕ) → Reads LegalScope (scope_of k)
unfolding scope_of
scope_of_reads k =
    if_reads (eqb k 0) _ _ (λ e. into_reads LegalScope ScopeValue.alarm_scope _ (text_reads short_limit) (λ a p. p)) (λ e.
    if_reads (eqb k 1) _ _ (λ e. into_reads LegalScope ScopeValue.tenant_scope _ (text_reads short_limit) (λ a p. p)) (λ e.
    give_reads LegalScope ScopeValue.global_scope tt))

scope_reads : Reads LegalScope scope
unfolding scope
scope_reads = bind_reads _ _ (choice_reads 0 2) (λ k p. scope_of_reads k)

-- as a clear's: an empty region is legal
record ReadPlaces (p : PlacesValue) : Type 0 where
  tenant : Maybe (TextOf short_limit) p.tenant
  slice : Maybe (TextOf short_limit) p.slice
  region : Maybe (TextOf region_limit) p.region

places_reads : Reads ReadPlaces places
unfolding places
places_reads =
    bind_reads _ _ (option_reads short_limit) (λ t pt. bind_reads _ _ (option_reads short_limit) (λ s ps.
    bind_reads _ _ (option_reads region_limit) (λ r pr. give_reads ReadPlaces _ (record { tenant = pt; slice = ps; region = pr }))))

record ReadKey (k : KeyValue) : Type 0 where
  cause : CauseOf k.cause
  object : ObjectOf k.object
  places : ReadPlaces k.places

key_reads : Reads ReadKey key
unfolding key
key_reads =
    bind_reads _ _ cause_text_reads (λ c pc. bind_reads _ _ object_reads (λ o po. bind_reads _ _ places_reads (λ p pp.
    give_reads ReadKey _ (record { cause = pc; object = po; places = pp }))))

-- a raise's region that is there has a byte
legal_key : (k : KeyValue) → ReadKey k → named k.places.region ≡ true → LegalKey k
legal_key k p h =
    record {
      cause = p.cause;
      object = p.object;
      tenant = p.places.tenant;
      slice = p.places.slice;
      region = go k.places.region p.places.region h;
    }
  where
    go : (o : Option Bytes) → Maybe (TextOf region_limit) o → named o ≡ true → Maybe (λ s. TextOf region_limit s × (1 ≤ length s)) o
    go none q e = tt
    go (some []) q e = let z : ◌≡◌ {A = ℕ} 0 1 = cc in absurd (omega arith)
    go (some (b ∷ s)) q e = (q, omega arith)

-- ---- the table

record ReadHead (h : RaiseHeadValue) : Type 0 where
  time : Time h.time
  id : TextOf short_limit h.id
  type : TextOf short_limit h.type
  severity : h.severity ≤ 5

head_reads : Reads ReadHead raise_head
unfolding raise_head
head_reads =
    bind_reads _ _ (number_reads 8) (λ t pt. bind_reads _ _ (text_reads short_limit) (λ i pi. bind_reads _ _ (text_reads short_limit) (λ y py.
    bind_reads _ _ (choice_reads 0 5) (λ v pv. give_reads ReadHead _ (record { time = pt; id = pi; type = py; severity = pv })))))

-- a text within both limits
abbrev pub Short : Bytes → Type 0
Short t = TextOf text_limit t × T (at_most code_point_limit (code_points t))

pub raise_text_reads : Reads Short raise_text
unfolding raise_text
raise_text_reads =
    bind_reads _ _ (text_reads text_limit) (λ t p. if_reads (at_most code_point_limit (code_points t)) _ _ (λ e. give_reads Short t (p, true_holds _ e)) (λ e. refuse_reads 33 tt))

body_reads : (h : RaiseHeadValue) (k : KeyValue) → ReadHead h → LegalKey k → Reads LegalRaise (raise_body h k)
unfolding raise_body
body_reads h k ph pk =
    bind_reads _ _ raise_text_reads (λ x px. bind_reads _ _ (optional_reads (BlobOf details_limit) _ (blob_reads details_limit)) (λ d pd.
    give_reads LegalRaise _ (record { time = ph.time; id = ph.id; type = ph.type; severity = ph.severity; key = pk; text = px.0; details = pd })))

pub raise_reads : Reads LegalRaise raise_fields
unfolding raise_fields
raise_reads =
    bind_reads _ _ head_reads (λ h ph. bind_reads _ _ key_reads (λ k pk. if_reads (named k.places.region) _ _
    (λ e. body_reads h k ph (legal_key k pk e)) (λ e. refuse_reads 29 tt)))

pub clear_reads : Reads (λ c. Time c.time) clear_fields
unfolding clear_fields
clear_reads = bind_reads _ _ (number_reads 8) (λ t pt. bind_reads _ _ (text_reads short_limit) (λ y py. bind_reads _ _ key_reads (λ k pk. give_reads _ _ pt)))

pub plain_reads : Reads (λ p. Time p.time) plain_fields
unfolding plain_fields
plain_reads = bind_reads _ _ (number_reads 8) (λ t pt. bind_reads _ _ (text_reads short_limit) (λ i pi. bind_reads _ _ (choice_reads 0 1) (λ a pa. give_reads _ _ pt)))

record ReadActor (a : ActorValue) : Type 0 where
  time : Time a.time
  principal : TextOf short_limit a.principal
  tenant : Maybe (TextOf short_limit) a.tenant

actor_reads : (t : ℕ) → Time t → Reads ReadActor (actor t)
unfolding actor
actor_reads t pt =
    bind_reads _ _ (text_reads short_limit) (λ i pi. bind_reads _ _ (text_reads short_limit) (λ y py.
    bind_reads _ _ (option_reads short_limit) (λ v pv. give_reads ReadActor _ (record { time = pt; principal = py; tenant = pv }))))

record ReadRequest (r : RequestValue) : Type 0 where
  reason : TextOf text_limit r.reason
  scope : LegalScope r.scope
  correlation : Maybe (TextOf short_limit) r.correlation

request_reads : Reads ReadRequest request
unfolding request
request_reads =
    bind_reads _ _ (text_reads text_limit) (λ r pr. bind_reads _ _ scope_reads (λ s ps. bind_reads _ _ (option_reads short_limit) (λ c pc.
    give_reads ReadRequest _ (record { reason = pr; scope = ps; correlation = pc }))))

verdict_reads : Reads (λ v. Unit {0}) verdict
unfolding verdict
verdict_reads = bind_reads _ _ (choice_reads 0 1) (λ c pc. bind_reads _ _ (choice_reads 0 1) (λ z pz. bind_reads _ _ (text_reads region_limit) (λ d pd. give_reads _ _ tt)))

pub behind_reads : (t : ℕ) → Time t → Reads LegalPolicy (policy_from t)
unfolding policy_from
behind_reads t pt =
    bind_reads _ _ (actor_reads t pt) (λ a pa. bind_reads _ _ request_reads (λ r pr. bind_reads _ _ verdict_reads (λ v pv.
    give_reads LegalPolicy _
    (record { time = pa.time; principal = pa.principal; tenant = pa.tenant; reason = pr.reason; scope = pr.scope; correlation = pr.correlation }))))

pub policy_reads : Reads LegalPolicy policy_fields
unfolding policy_fields
policy_reads = bind_reads _ _ (number_reads 8) behind_reads

pub severity_reads : Reads (λ v. Unit {0}) severity_or_all
unfolding severity_or_all
severity_reads = bind_reads _ _ (number_reads 1) (λ b pb. if_reads (leb b 5 || eqb b 255) _ _ (λ e. give_reads _ _ tt) (λ e. refuse_reads 25 tt))
