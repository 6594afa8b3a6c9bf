-- M-104: that both limits are met follows from a raise's being read without a fault, and it is all that is asked of differing texts.
use Rattle.std.specs.Prelude.{ℕ, ◌<◌, ◌≤◌, ◌≡◌, refl, ◌∷◌, ◌++◌, true, T, length}
use Rattle.std.proofs.Common.{subst, append_assoc, arith, length-append, take_at, drop_at, le-leb}
use Rattle.std.proofs.Math.Option.{Option, none, some}
use Rattle.octets.specs.Bytes.{Bytes, value_from, be32}
use Rattle.octets.specs.BoolLaws.{holds}
use Rattle.octets.specs.NumberLaws.{length_be32, value_digits}
use Rattle.definition.specs.Limits.{text_limit, details_limit, code_point_limit}
use Rattle.definition.specs.Utf8.{code_points, is_run, utf8, at_most}
use Rattle.definition.specs.Key.{string, optional}
use Rattle.definition.specs.Value.{KeyValue, RaiseHeadValue, RaiseValue}
use Rattle.definition.specs.Reader as Reader
use Rattle.definition.specs.Reader.{Out, got, bad, Reader, next, ◌>>=◌, bytes, number, choice, blob, text}
use Rattle.definition.specs.Parse.{raise_text, raise_body}
use Rattle.definition.specs.Twins.{ReadRaise, MeetsLimits, texts_of, DetailsFit, TextLimits}
use Rattle.definition.specs.Clauses.LegalFields.{BlobOf}
use Rattle.definition.proofs.Laws.Text.ParsedFields.{Given, gave, refuses, Reads, give_reads, bind_reads, blob_reads, optional_reads, raise_text_reads}
use Rattle.definition.proofs.Laws.Twins.ReadTwins.{before_text_local, elsewhere}

-- ---- what is read meets both limits

abbrev Refused : {A : Type 0} → Out A → Type 0
Refused (got a u) = ⊥
Refused (bad n) = Unit {0}

given : {A : Type 0} {P : A → Type 0} {o : Out A} {a : A} {u : Bytes} → Given P o → o ≡ got a u → P a
given {P = P} {a = a} (gave {a = b} p s) e = let z : b ≡ a = cc in subst P z p
given (refuses h) e = absurd (subst Refused e tt)

short_text : (h : RaiseHeadValue) (k : KeyValue) → Reads (λ r. MeetsLimits r.text) (raise_body h k)
unfolding raise_body
short_text h k =
    bind_reads _ _ raise_text_reads (λ t p. bind_reads _ _ (optional_reads (BlobOf details_limit) _ (blob_reads details_limit)) (λ d q.
    give_reads (λ r. MeetsLimits r.text) _ (record { points = p.1; bytes = p.0.0 })))

-- ---- what meets them is read

number_sent : (n : ℕ) (s : Bytes) → n < 4294967296 → number 4 (be32 n ++ s) ≡ got n s
unfolding number bytes ◌>>=◌
number_sent n s h =
    rw (le-leb 4 (length (be32 n ++ s)) (omega (arith, length-append (be32 n) s, length_be32 n)), take_at (be32 n) s 4 (length_be32 n), drop_at (be32 n) s 4 (length_be32 n), value_digits 4 n h)

blob_sent : (limit : ℕ) (t s : Bytes) → limit < 4294967296 → length t ≤ limit → blob limit (string t ++ s) ≡ got t s
unfolding blob bytes ◌>>=◌
blob_sent limit t s w h =
    rw (append_assoc (be32 (length t)) t s, number_sent (length t) (t ++ s) (omega arith), le-leb (length t) limit h, le-leb (length t) (length (t ++ s)) (omega (arith, length-append t s)), take_at t s (length t) refl, drop_at t s (length t) refl)

run_of : (t : Bytes) → MeetsLimits t → utf8 t ≡ true
unfolding utf8
run_of t m = go (code_points t) m.points
  where
    go : (o : Option ℕ) → T (at_most code_point_limit o) → is_run o ≡ true
    go none h = absurd h
    go (some n) h = refl

text_sent : (t s : Bytes) → MeetsLimits t → raise_text (string t ++ s) ≡ got t s
unfolding raise_text text ◌>>=◌
text_sent t s m = rw (blob_sent text_limit t s (omega arith) m.bytes, run_of t m, holds (at_most code_point_limit (code_points t)) m.points)

details_sent : (d : Option Bytes) (s : Bytes) → DetailsFit d → Reader.optional (blob details_limit) (optional d ++ s) ≡ got d s
unfolding Reader.optional choice number bytes value_from ◌>>=◌
details_sent none s h = rw (le-leb 1 (length (0 ∷ s)) (omega arith))
details_sent (some d) s h = rw (le-leb 1 (length (1 ∷ (string d ++ s))) (omega arith), blob_sent details_limit d s (omega arith) h)

abbrev raised : RaiseHeadValue × KeyValue → Bytes → Option Bytes → RaiseValue
raised v t d = record { head = v.0; key = v.1; text = t; details = d }

body_sent : (v : RaiseHeadValue × KeyValue) (t s : Bytes) (d : Option Bytes) → MeetsLimits t → DetailsFit d → raise_body v.0 v.1 (texts_of t d ++ s) ≡ got (raised v t d) s
unfolding raise_body ◌>>=◌
body_sent v t s d m h = rw (append_assoc (string t) (optional d) s, text_sent t (optional d ++ s) m, details_sent d s h)

module _ {before texts after : Bytes} (r : ReadRaise before texts after) where
  read_again : (t : Bytes) (d : Option Bytes) → MeetsLimits t → DetailsFit d → ReadRaise before (texts_of t d) after
  read_again t d m h =
      record {
        early = r.early;
        raise = raised r.early t d;
        before_read = elsewhere before (texts ++ after) r.early (before_text_local.local (before ++ (texts ++ after))) r.before_read (texts_of t d ++ after);
        texts_read = body_sent r.early t after d m h;
      }

-- ---- so the texts that may differ are those that meet both limits

pub text_limits : TextLimits
text_limits =
    record {
      met = λ {before} {texts} {after} r o. given ((short_text r.early.0 r.early.1).reads (texts ++ after) o) r.texts_read;
      enough = λ {before} {texts} {after} r t t' d d' m m' h h'.
          record { before = before; texts = texts_of t d; texts' = texts_of t' d'; after = after; is = refl; is' = refl; read = read_again r t d m h; read' = read_again r t' d' m' h' };
    }
