-- A string by its kind is its bytes, and the kind's test of them.
use Rattle.std.specs.Prelude.{ℕ, ◌≡◌, true, false}
use Rattle.octets.specs.Bytes.{Bytes}
use Rattle.definition.specs.Reader.{blob, text}
use Rattle.model.specs.Meaning.{part, within}
use Rattle.model.specs.declared.Span.{Span}
use Rattle.model.specs.declared.refusal.Refusal.{Refusal}
use Rattle.model.specs.declared.refusal.Refusal.TheVariants.{Utf8}
use Rattle.fields.specs.Reading.{Gives, Refuses}
use Rattle.fields.specs.ReadingLaws.{step, stops, passes, done, tested, fails}
use Rattle.fields.specs.StringKind.{string_by, obeyed}
use Rattle.fields.specs.declared.StringKind.{StringKind}
use Rattle.fields.specs.declared.StringKind.TheVariants.{Text, Blob}

module _ {s : Bytes} {i : ℕ} {limit : ℕ} where
  pub obeying : {p : Span} {n : ℕ} (kind : StringKind) → Gives s i (blob limit) part (λ t. within t limit) p n → obeyed kind (part s p) ≡ true → Gives s i (string_by kind limit) part (λ t. within t limit) p n
  unfolding text
  obeying Text read h = step _ read (tested _ h (done read.lies))
  obeying Blob read h = read

  pub disobeying : {p : Span} {n : ℕ} (kind : StringKind) → Gives s i (blob limit) part (λ t. within t limit) p n → obeyed kind (part s p) ≡ false → Refuses s i (string_by kind limit) Utf8
  unfolding text
  disobeying Text read h = passes _ read (fails _ h)
  disobeying Blob read h = cc

pub string_stops : {s : Bytes} {i : ℕ} {e : Refusal} (kind : StringKind) (limit : ℕ) → Refuses s i (blob limit) e → Refuses s i (string_by kind limit) e
unfolding text
string_stops Text limit a = stops _ a
string_stops Blob limit a = a
