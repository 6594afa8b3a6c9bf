-- The definition's tests of fields (Record.antt) and the propositions that proofs carry (Contracts/LegalFields.antt) say the same, slot by
-- slot. For the laws of whole records (Payloads).
use Rattle.std.specs.Prelude.{ℕ, ◌≤◌, ◌<◌, ◌^◌, ◌≡◌, Bool, true, not, ◌&&◌, ◌||◌, T, leb, ltb, eqb, length}
use Rattle.std.proofs.Math.Option.{Option, none, some}
use Rattle.std.proofs.Common.{lt-ltb, le-leb, eq-eqb, leb→le, ltb→lt, eqb→eq}
use Rattle.octets.specs.Bytes.{Bytes}
use Rattle.octets.specs.BoolLaws.{both, both_left, both_right, holds, true_holds}
use Rattle.definition.specs.Limits.{short_limit, cause_limit, region_limit, details_limit}
use Rattle.definition.specs.Utf8.{utf8}
use Rattle.definition.specs.Cause.{stored}
use Rattle.definition.specs.Value.{ObjectValue, ScopeValue}
use Rattle.definition.specs.Chain.{present}
use Rattle.definition.specs.Slot.{Slot, string, option}
use Rattle.definition.specs.Record.{is_region, any_bytes, short, cause_slot, region_slot, details_slot, object_ok, scope_ok}
use Rattle.definition.specs.Clauses.LegalFields.{Time, EndOf, Raises, Maybe, BlobOf, TextOf, CauseOf, ObjectOf, LegalScope}

-- the test t says P
pub record Says (t : Bool) (P : Type 0) : Type 0 where
  pub from : T t → P
  pub to : P → T t

abbrev is_true : (b : Bool) → Says b (b ≡ true)
is_true b = record { from = holds b; to = true_holds b }

abbrev pub always : Says true (Unit {0})
always = record { from = λ t. tt; to = λ u. tt }

pub says_le : (m n : ℕ) → Says (leb m n) (m ≤ n)
says_le m n = record { from = leb→le m n; to = λ h. true_holds _ (le-leb m n h) }

pub says_lt : (m n : ℕ) → Says (ltb m n) (m < n)
says_lt m n = record { from = ltb→lt m n; to = λ h. true_holds _ (lt-ltb m n h) }

pub says_eq : (m n : ℕ) → Says (eqb m n) (m ≡ n)
says_eq m n = record { from = eqb→eq m n; to = λ h. true_holds _ (eq-eqb m n h) }

pub says_and : {t u : Bool} {P Q : Type 0} → Says t P → Says u Q → Says (t && u) (P × Q)
says_and {t} {u} p q =
    record {
      from = λ x. (p.from (both_left t u x), q.from (both_right t u x));
      to = λ x. both t u (p.to x.0) (q.to x.1);
    }

-- the same said otherwise
pub says_as : {t : Bool} {P Q : Type 0} → (P → Q) → (Q → P) → Says t P → Says t Q
says_as f g p = record { from = λ x. f (p.from x); to = λ x. p.to (g x) }

pub says_option : {A : Type 0} (s : Slot A) (P : A → Type 0) → ((a : A) → Says (s.ok a) (P a)) → (o : Option A) → Says ((option s).ok o) (Maybe P o)
says_option s P h none = always
says_option s P h (some a) = h a

-- ---- strings

pub says_text : (n : ℕ) (s : Bytes) → Says ((string n utf8).ok s) (TextOf n s)
says_text n s = says_and (says_le (length s) n) (is_true (utf8 s))

pub says_cause : (s : Bytes) → Says (cause_slot.ok s) (CauseOf s)
says_cause s =
    says_as (λ p. ((p.0, p.1.0), p.1.1)) (λ p. (p.0.0, (p.0.1, p.1)))
    (says_and (says_le (length s) cause_limit) (says_and (is_true (utf8 s)) (is_true (stored s))))

abbrev pub Region : Bytes → Type 0
Region s = TextOf region_limit s × (1 ≤ length s)

pub says_region : (o : Option Bytes) → Says (region_slot.ok o) (Maybe Region o)
says_region o = says_option (string region_limit is_region) Region (λ s.
    says_as (λ p. ((p.0, p.1.1), p.1.0)) (λ p. (p.0.0, (p.1, p.0.1)))
    (says_and (says_le (length s) region_limit) (says_and (says_le 1 (length s)) (is_true (utf8 s))))) o

pub says_details : (o : Option Bytes) → Says (details_slot.ok o) (Maybe (BlobOf details_limit) o)
says_details o = says_option (string details_limit any_bytes) (BlobOf details_limit) (λ s. says_as (λ p. p.0) (λ p. (p, tt)) (says_and (says_le (length s) details_limit) always)) o

pub says_place : (o : Option Bytes) → Says ((option short).ok o) (Maybe (TextOf short_limit) o)
says_place o = says_option short (TextOf short_limit) (says_text short_limit) o

pub says_object : (o : ObjectValue) → Says (object_ok o) (ObjectOf o)
says_object (ObjectValue.nf_instance a b) = says_and (says_text short_limit a) (says_text short_limit b)
says_object (ObjectValue.interface a b) = says_and (says_text short_limit a) (says_text short_limit b)
says_object (ObjectValue.peer a b) = says_and (says_text short_limit a) (says_text short_limit b)
says_object (ObjectValue.session_store a h) = says_and (says_text short_limit a) (says_place h)
says_object (ObjectValue.slice a) = says_text short_limit a
says_object (ObjectValue.tenant a) = says_text short_limit a
says_object (ObjectValue.certificate a) = says_text short_limit a
says_object (ObjectValue.data_plane_queue a b q) =
    says_as (λ p. (p.0, p.1.0, p.1.1)) (λ p. (p.0, (p.1, p.2)))
    (says_and (says_text short_limit a) (says_and (says_text short_limit b) (says_lt q 65536)))

pub says_scope : (s : ScopeValue) → Says (scope_ok s) (LegalScope s)
says_scope (ScopeValue.alarm_scope s) = says_text short_limit s
says_scope (ScopeValue.tenant_scope s) = says_text short_limit s
says_scope ScopeValue.global_scope = always

pub says_time : (t : ℕ) → Says (ltb t (256 ^ 8)) (Time t)
says_time t = says_lt t 18446744073709551616

-- M-105: where there is an end, the state is 3
pub says_end : (state : ℕ) (end : Option ℕ) → Says (not (present end) || eqb state 3) (Maybe (λ t. state ≡ 3) end)
says_end x none = always
says_end x (some t) = says_eq x 3

pub end_of : (state : ℕ) (end : Option ℕ) → Maybe Time end → Maybe (λ t. state ≡ 3) end → EndOf state end
end_of x none p q = tt
end_of x (some t) p q = (p, q)

pub end_parts : (state : ℕ) (end : Option ℕ) → EndOf state end → Maybe Time end × Maybe (λ t. state ≡ 3) end
end_parts x none p = (tt, tt)
end_parts x (some t) p = p

pub says_raises : (n : ℕ) → Says (ltb n (256 ^ 4)) (Raises n)
says_raises n = says_lt n 4294967296
