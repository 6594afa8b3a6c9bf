-- History's sameness test looks at two stretches of an alarm's bytes: severity and state, and all from id to region. For `record`, whose code
-- compares just these.
use Rattle.std.specs.Prelude.{◌≡◌, refl, List, [], ◌∷◌, Bool, true, cond, ◌&&◌, ℕ, T, eqb, take, drop, get_or}
use Rattle.std.proofs.Common.{sym, ap, ap₂, ◌∙◌, subst, arith, eq-eqb, eqb→eq}
use Rattle.std.proofs.Math.Option.{Option, none, some}
use Rattle.octets.specs.Bytes.{Bytes, same}
use Rattle.octets.specs.BoolLaws.{both, both_left, both_right, true_holds, same_tests}
use Rattle.octets.specs.SameLaws.{same→eq, eq→same, same_refl}
use Rattle.octets.specs.PartLaws.{part_part}
use Rattle.definition.specs.Value.{ObjectValue, nf_instance, interface, peer, session_store, slice, tenant, certificate, data_plane_queue, PlacesValue, KeyValue}
use Rattle.definition.specs.Key.{parts}
use Rattle.definition.specs.Alarm.{Alarm, same_maybe, same_names, same_parts, same_places, same_key, same_identity}
use Rattle.definition.specs.Slot.{up_to, option, join, cut}
use Rattle.definition.proofs.Laws.Record.Join.{part_join, test_at, joined, joined_all}
use Rattle.definition.specs.Record.{short, cause_slot, region_slot, object_slot, last_state, alarm_bytes, read_alarm, sound_alarm}
use Rattle.definition.proofs.Laws.Record.Payloads.{alarm_widths, alarm_pieces, alarm_fits, sound_legal_alarm}

-- ---- the tests say that the values are equal

each : (x : Bool) (ys : List Bool) → T (joined x ys) → (i : ℕ) → T (get_or (x ∷ ys) i true)
each x ys t i = test_at (x ∷ ys) i (subst (λ (b : Bool). T b) (joined_all x ys) t)

module _ {A : Type 0} (f : A → A → Bool) where
  maybe→eq : ((x y : A) → T (f x y) → x ≡ y) → (o p : Option A) → T (same_maybe f o p) → o ≡ p
  maybe→eq h none none t = refl
  maybe→eq h none (some y) t = absurd t
  maybe→eq h (some x) none t = absurd t
  maybe→eq h (some x) (some y) t = ap some (h x y t)

  maybe_refl : ((x : A) → f x x ≡ true) → (o : Option A) → same_maybe f o o ≡ true
  maybe_refl h none = refl
  maybe_refl h (some x) = h x

names→eq : (s t : List Bytes) → T (same_names s t) → s ≡ t
unfolding same_names
names→eq [] [] h = refl
names→eq [] (y ∷ t) h = absurd h
names→eq (x ∷ s) [] h = absurd h
names→eq (x ∷ s) (y ∷ t) h = ap₂ ◌∷◌ (same→eq x y (both_left (same x y) (same_names s t) h)) (names→eq s t (both_right (same x y) (same_names s t) h))

names_refl : (s : List Bytes) → same_names s s ≡ true
unfolding same_names
names_refl [] = refl
names_refl (x ∷ s) = rw (same_refl x) (names_refl s)

number_refl : (n : ℕ) → eqb n n ≡ true
number_refl n = eq-eqb n n refl

-- an object, from its parts
or_else : {A : Type 0} → A → Option A → A
or_else d none = d
or_else d (some a) = a

abbrev whole : ℕ → List Bytes → Option (Option Bytes) → Option ℕ → ObjectValue
whole k s h q =
    let a = get_or s 0 [] in
    let b = get_or s 1 [] in
    cond (eqb k 1) (nf_instance a b)
    (cond (eqb k 2) (interface a b)
    (cond (eqb k 3) (peer a b)
    (cond (eqb k 4) (session_store a (or_else none h))
    (cond (eqb k 5) (slice a)
    (cond (eqb k 6) (tenant a)
    (cond (eqb k 7) (certificate a)
    (data_plane_queue a b (or_else 0 q))))))))

whole_parts : (o : ObjectValue) → whole (parts o).kind (parts o).names (parts o).shard (parts o).queue ≡ o
unfolding parts or_else
whole_parts (nf_instance a b) = refl
whole_parts (interface a b) = refl
whole_parts (peer a b) = refl
whole_parts (session_store a h) = refl
whole_parts (slice a) = refl
whole_parts (tenant a) = refl
whole_parts (certificate a) = refl
whole_parts (data_plane_queue a b q) = refl

object→eq : (o p : ObjectValue) → T (same_parts (parts o) (parts p)) → o ≡ p
object→eq o p t =
    let x = parts o in
    let y = parts p in
    let test = each (eqb x.kind y.kind) (same_names x.names y.names ∷ same_maybe (same_maybe same) x.shard y.shard ∷ same_maybe eqb x.queue y.queue ∷ []) t in
    let k = eqb→eq x.kind y.kind (test 0) in
    let n = names→eq x.names y.names (test 1) in
    let h = maybe→eq (same_maybe same) (maybe→eq same same→eq) x.shard y.shard (test 2) in
    let q = maybe→eq eqb eqb→eq x.queue y.queue (test 3) in
    sym (whole_parts o) ∙ (λ i. whole (k i) (n i) (h i) (q i)) ∙ whole_parts p

places→eq : (p q : PlacesValue) → T (same_places p q) → p ≡ q
places→eq p q t =
    let test = each (same_maybe same p.tenant q.tenant) (same_maybe same p.slice q.slice ∷ same_maybe same p.region q.region ∷ []) t in
    λ i. record {
      tenant = maybe→eq same same→eq p.tenant q.tenant (test 0) i;
      slice = maybe→eq same same→eq p.slice q.slice (test 1) i;
      region = maybe→eq same same→eq p.region q.region (test 2) i;
    }

key→eq : (k l : KeyValue) → T (same_key k l) → k ≡ l
unfolding same_key
key→eq k l t =
    let test = each (same k.cause l.cause) (same_parts (parts k.object) (parts l.object) ∷ same_places k.places l.places ∷ []) t in
    λ i. record {
      cause = same→eq k.cause l.cause (test 0) i;
      object = object→eq k.object l.object (test 1) i;
      places = places→eq k.places l.places (test 2) i;
    }

key_refl : (k : KeyValue) → same_key k k ≡ true
unfolding same_key
key_refl k =
    let p = parts k.object in
    rw (
      same_refl k.cause,
      number_refl p.kind,
      names_refl p.names,
      maybe_refl (same_maybe same) (maybe_refl same same_refl) p.shard,
      maybe_refl eqb number_refl p.queue,
      maybe_refl same same_refl k.places.tenant,
      maybe_refl same same_refl k.places.slice,
      maybe_refl same same_refl k.places.region,
    )

-- ---- what history compares

record Identity : Type 0 where
  severity : ℕ
  state : ℕ
  id : Bytes
  type : Bytes
  about : KeyValue

abbrev identity : Alarm → Identity
identity a = record { severity = a.severity; state = a.state; id = a.id; type = a.type; about = a.about }

identity→eq : (a b : Alarm) → T (same_identity a b) → identity a ≡ identity b
unfolding same_identity
identity→eq a b t =
    let test = each (same a.id b.id) (same a.type b.type ∷ eqb a.severity b.severity ∷ same_key a.about b.about ∷ eqb a.state b.state ∷ []) t in
    λ i. record {
      severity = eqb→eq a.severity b.severity (test 2) i;
      state = eqb→eq a.state b.state (test 4) i;
      id = same→eq a.id b.id (test 0) i;
      type = same→eq a.type b.type (test 1) i;
      about = key→eq a.about b.about (test 3) i;
    }

eq→identity : (a b : Alarm) → identity a ≡ identity b → T (same_identity a b)
unfolding same_identity
eq→identity a b e =
    true_holds (same_identity a b) (rw (
      eq→same a.id b.id (ap (λ (x : Identity). x.id) e),
      eq→same a.type b.type (ap (λ (x : Identity). x.type) e),
      eq-eqb a.severity b.severity (ap (λ (x : Identity). x.severity) e),
      ap (λ (x : Identity). same_key x.about b.about) e ∙ key_refl b.about,
      eq-eqb a.state b.state (ap (λ (x : Identity). x.state) e),
    ))

-- ---- its bytes: two stretches of an alarm's

abbrev front : Identity → List Bytes
front x = (up_to 5).put x.severity ∷ (up_to last_state).put x.state ∷ []

abbrev body : Identity → List Bytes
body x =
    short.put x.id ∷ short.put x.type ∷ cause_slot.put x.about.cause ∷ object_slot.put x.about.object
    ∷ (option short).put x.about.places.tenant ∷ (option short).put x.about.places.slice ∷ region_slot.put x.about.places.region ∷ []

front_bytes : (a : Alarm) → take 2 (drop 16 (alarm_bytes a)) ≡ join (front (identity a))
unfolding alarm_bytes
front_bytes a = part_join 1 2 alarm_widths (alarm_pieces a) (alarm_fits a)

body_bytes : (a : Alarm) → take 631 (drop 43 (alarm_bytes a)) ≡ join (body (identity a))
unfolding alarm_bytes
body_bytes a = part_join 6 7 alarm_widths (alarm_pieces a) (alarm_fits a)

-- the identity, from the two stretches
abbrev identity_of : Bytes → Bytes → Identity
identity_of f b =
    record {
      severity = (up_to 5).get (take 1 (drop 0 f));
      state = (up_to last_state).get (take 1 (drop 1 f));
      id = short.get (take 66 (drop 0 b));
      type = short.get (take 66 (drop 66 b));
      about = record {
        cause = cause_slot.get (take 98 (drop 132 b));
        object = object_slot.get (take 136 (drop 230 b));
        places = record {
          tenant = (option short).get (take 67 (drop 366 b));
          slice = (option short).get (take 67 (drop 433 b));
          region = region_slot.get (take 131 (drop 500 b));
        };
      };
    }

read_identity : (p : Bytes) → identity_of (take 2 (drop 16 p)) (take 631 (drop 43 p)) ≡ identity (read_alarm p)
unfolding read_alarm cut
read_identity p = λ i.
    record {
      severity = (up_to 5).get (part_part p 16 0 1 2 (omega arith) i);
      state = (up_to last_state).get (part_part p 16 1 1 2 (omega arith) i);
      id = short.get (part_part p 43 0 66 631 (omega arith) i);
      type = short.get (part_part p 43 66 66 631 (omega arith) i);
      about = record {
        cause = cause_slot.get (part_part p 43 132 98 631 (omega arith) i);
        object = object_slot.get (part_part p 43 230 136 631 (omega arith) i);
        places = record {
          tenant = (option short).get (part_part p 43 366 67 631 (omega arith) i);
          slice = (option short).get (part_part p 43 433 67 631 (omega arith) i);
          region = region_slot.get (part_part p 43 500 131 631 (omega arith) i);
        };
      };
    }

-- two sound alarms are the same to history where both stretches of their bytes are
pub same_identity_lem :
    (p q : Bytes) → T (sound_alarm last_state p) → T (sound_alarm last_state q) →
    same (take 2 (drop 16 p)) (take 2 (drop 16 q)) && same (take 631 (drop 43 p)) (take 631 (drop 43 q)) ≡ same_identity (read_alarm p) (read_alarm q)
same_identity_lem p q s t =
    let x = same (take 2 (drop 16 p)) (take 2 (drop 16 q)) in
    let y = same (take 631 (drop 43 p)) (take 631 (drop 43 q)) in
    same_tests (x && y) (same_identity (read_alarm p) (read_alarm q))
    (λ h. eq→identity (read_alarm p) (read_alarm q)
    (sym (read_identity p) ∙ ap₂ identity_of (same→eq _ _ (both_left x y h)) (same→eq _ _ (both_right x y h)) ∙ read_identity q))
    (λ h.
    let e = identity→eq (read_alarm p) (read_alarm q) h in
    both x y
    (true_holds _ (eq→same _ _ (of_front p s ∙ ap (λ (i : Identity). join (front i)) e ∙ sym (of_front q t))))
    (true_holds _ (eq→same _ _ (of_body p s ∙ ap (λ (i : Identity). join (body i)) e ∙ sym (of_body q t)))))
  where
    of_front : (p : Bytes) → T (sound_alarm last_state p) → take 2 (drop 16 p) ≡ join (front (identity (read_alarm p)))
    of_front p s = ap (λ (b : Bytes). take 2 (drop 16 b)) (sym (sound_legal_alarm last_state p s).1) ∙ front_bytes (read_alarm p)

    of_body : (p : Bytes) → T (sound_alarm last_state p) → take 631 (drop 43 p) ≡ join (body (identity (read_alarm p)))
    of_body p s = ap (λ (b : Bytes). take 631 (drop 43 b)) (sym (sound_legal_alarm last_state p s).1) ∙ body_bytes (read_alarm p)
