-- Laws of the room in the buffer: for one thing behind another, and for all that is hashed.
use mathlib.Core.Path.{◌≡◌, refl, sym, ap, subst, ◌∙◌}
use mathlib.Core.List.{[], ◌∷◌, ◌++◌}
use Prim.Native.Nat.{ℕ, ◌+◌, ◌≤◌, ◌<◌}
use native.Mathlib.Omega.{arith}
use lib.ListN.{length, length-append}
use lib.Dec.{lit≤}
use Rattle.octets.specs.Bytes.{Bytes, ascii}
use Rattle.definition.specs.Limits.{short_limit, cause_limit, region_limit}
use Rattle.definition.specs.Key.{string, optional, strings, decimal, parts, fed_object, fed_places, fed}
use Rattle.definition.proofs.Laws.Text.Key.{length_string, length_decimal}
use Rattle.model.specs.declared.AffectedObject.{AffectedObject}
use Rattle.model.specs.declared.AffectedObject.TheVariants as O
use Rattle.model.specs.declared.Span.{Span}
use Rattle.model.specs.Meaning.{OptSpan}
use Rattle.std.specs.Prelude.{None, Some}
use Rattle.model.specs.declared.Places.{Places}
use Rattle.model.specs.declared.KeyFields.{KeyFields}
use Rattle.model.specs.Meaning.{part, opt_part, cause_part, object_value, places_value, key_value, within, opt_within, object_within, PlacesWithin, KeyWithin}
use Rattle.model.specs.CaseLaws.{object_case}
use Rattle.model.specs.PartLaws.{part_short}
use Rattle.strings.specs.StoredLength.{stored_length}
use Rattle.strings.specs.declared.Writer.{Writer}
use Rattle.strings.specs.Writing.{Wrote}
use Rattle.strings.specs.WritingLaws.{same_length}
use Rattle.key.specs.Hashed.{string_most, option_most, tag_most, queue_most, object_most, places_most, hashed_width, Room, tagged_one, tagged_two}
use Rattle.key.proofs.Fed.{single_fed, pair_fed, store_fed, queue_fed}

-- ---- one thing behind another

-- the same bytes in other words
pub room_as : {w : Writer} {u v : Bytes} → v ≡ u → Room w u → Room w v
room_as {w} e r = subst (λ (x : Bytes). Room w x) (sym e) r

-- where there is room for two, there is for the first, and for the second behind it
pub room_front : {w : Writer} {u : Bytes} (v : Bytes) → Room w (u ++ v) → Room w u
room_front {u = u} v r = record { width = r.width; fits = omega (arith, r.fits, length-append u v) }

pub room_behind : {w x : Writer} {u v : Bytes} → Room w (u ++ v) → Wrote w u x → Room x v
room_behind {u = u} {v} r p = record { width = same_length p ∙ r.width; fits = omega (arith, r.fits, p.put.next, length-append u v) }

-- what `put_string` asks for
pub string_asks : {w : Writer} (s : Bytes) → Room w (string s) → (w.at + (4 + length s) ≤ length w.slice.now) × (length s < 4294967296)
string_asks s r = (omega (arith, r.width, r.fits, length_string s), omega (arith, r.fits, length_string s))

-- ---- the most that each field takes

record Most (v : Bytes) (n : ℕ) : Type 0 where
  most : length v ≤ n

both : {u v : Bytes} {m n : ℕ} → Most u m → Most v n → Most (u ++ v) (m + n)
both {u} {v} p q = record { most = omega (arith, p.most, q.most, length-append u v) }

string_most_lem : (s : Bytes) (n : ℕ) → length s ≤ n → Most (string s) (string_most n)
string_most_lem s n h = record { most = omega (arith, length_string s) }

-- of the same bytes in other words, within a wider bound
most_as : {u v : Bytes} {m n : ℕ} → u ≡ v → m ≤ n → Most u m → Most v n
most_as e h p = record { most = omega (arith, p.most, ap length e) }

module _ (call : Bytes) where
  part_most : (n : ℕ) (p : Span) → within call n p → Most (string (part call p)) (string_most n)
  part_most n p w = string_most_lem (part call p) n (part_short call n p refl w)

  option_most_lem : (n : ℕ) (p : OptSpan) → opt_within call n p → Most (optional (opt_part call p)) (option_most n)
  option_most_lem n None w = record { most = omega arith }
  option_most_lem n (Some p) w = both {u = 1 ∷ []} (record { most = lit≤ tt }) (part_most n p w)

  module _ (t : Bytes) (h : length t ≤ tag_most) (a : Span) where
    single_most : within call short_limit a → Most (tagged_one t (part call a)) (string_most tag_most + string_most short_limit)
    single_most w = both (string_most_lem t tag_most h) (part_most short_limit a w)

    pair_most :
        (b : Span) → within call short_limit a × within call short_limit b →
        Most (tagged_two t (part call a) (part call b)) (string_most tag_most + string_most short_limit + string_most short_limit)
    pair_most b w = both (single_most w.0) (part_most short_limit b w.1)

    one_string : within call short_limit a → Most (string t ++ (strings (part call a ∷ []) ++ [])) object_most
    one_string w = most_as (single_fed t refl) (lit≤ tt) (single_most w)

    two_strings : (b : Span) → within call short_limit a × within call short_limit b → Most (string t ++ (strings (part call a ∷ part call b ∷ []) ++ [])) object_most
    two_strings b w = most_as (pair_fed t refl refl) (lit≤ tt) (pair_most b w)

  object_most_lem : (o : AffectedObject) → object_within call o → Most (fed_object (object_value call o)) object_most
  unfolding fed_object parts
  object_most_lem (O.NfInstance a b) w = two_strings (ascii "NfInstance") (lit≤ tt) a b w
  object_most_lem (O.Interface a b) w = two_strings (ascii "Interface") (lit≤ tt) a b w
  object_most_lem (O.Peer a b) w = two_strings (ascii "Peer") (lit≤ tt) a b w
  object_most_lem (O.SessionStore a h) w =
      most_as (store_fed call {a = a} {h = h} refl refl) (lit≤ tt) (both (single_most (ascii "SessionStore") (lit≤ tt) a w.0) (option_most_lem short_limit h w.1))
  object_most_lem (O.Slice a) w = one_string (ascii "Slice") (lit≤ tt) a w
  object_most_lem (O.Tenant a) w = one_string (ascii "Tenant") (lit≤ tt) a w
  object_most_lem (O.Certificate a) w = one_string (ascii "Certificate") (lit≤ tt) a w
  object_most_lem (O.DataPlaneQueue a b q) w =
      most_as (queue_fed (part call a) (part call b) q) (lit≤ tt) (both (pair_most (ascii "DataPlaneQueue") (lit≤ tt) a b w) (string_most_lem (decimal q) queue_most (length_decimal q)))

  places_most_lem : (p : Places) → PlacesWithin call p → Most (fed_places (places_value call p)) places_most
  unfolding fed_places
  places_most_lem p w =
      most_as refl (lit≤ tt)
      (both (option_most_lem short_limit p.tenant w.tenant) (both (option_most_lem short_limit p.slice w.slice) (option_most_lem region_limit p.region w.region)))

  -- there is room for all that is hashed
  pub fed_room :
      {w : Writer} (p : Span) (k : KeyFields) → length w.slice.now ≡ hashed_width → w.at ≡ 0 → within call short_limit p → KeyWithin call k →
      Room w (fed (part call p) (key_value call k))
  unfolding fed
  fed_room p k l s h v =
      let behind-cause = both (object_most_lem k.object v.object) (places_most_lem k.places v.places) in
      let behind-type = both (string_most_lem (cause_part call k.cause) cause_limit (stored_length call k.cause v.cause)) behind-cause in
      record { width = l; fits = omega (arith, s, (both (part_most short_limit p h) behind-type).most) }

  -- ---- an option within the limit of tenant and slice is within that of a region

  pub option_wider : (p : OptSpan) → opt_within call short_limit p → opt_within call region_limit p
  option_wider None w = tt
  option_wider (Some p) w = (w.0, omega arith)

  pub shard_wider : {o : AffectedObject} {a : Span} {h : OptSpan} → o ≡ O.SessionStore a h → object_within call o → opt_within call region_limit h
  shard_wider {h = h} e w = option_wider h (object_case call e w).1
