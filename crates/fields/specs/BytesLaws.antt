-- The bytes at the start of a part: too few are there, or they are there.
use Rattle.std.specs.Prelude.{ℕ, ◌≤◌, ◌<◌, ◌^◌, ◌≡◌, length}
use Rattle.std.proofs.Common.{lt_of_lt_of_le, le-leb}
use Rattle.std.proofs.Math.Nat.{pow-le-pow_right}
use native.Mathlib.Omega.{arith}
use Rattle.std.proofs.lemmas.Bool.{lt-leb}
use Rattle.octets.specs.Bytes.{Bytes, value}
use Rattle.definition.specs.Reader.{bytes, number, blob}
use Rattle.model.specs.Meaning.{part, within}
use Rattle.model.specs.declared.Span.{Span}
use Rattle.model.specs.declared.refusal.Refusal.TheVariants.{CallLength}
use Rattle.fields.specs.Reading.{Gives, Refuses, itself, of_width}
use Rattle.fields.specs.ReadingLaws.{step, done, tested}

module _ {left : Bytes} {n : ℕ} where
  pub short_taken : length left < n → Refuses left 0 (bytes n) CallLength
  unfolding bytes
  short_taken h = record { out = rw (lt-leb n (length left) h) }

  pub bytes_taken : n ≤ length left → Gives left 0 (bytes n) part (λ s. within s n) (record { at = 0; len = n }) n
  unfolding bytes
  bytes_taken h = record { out = rw (le-leb n (length left) h); lies = (omega arith, omega arith) }

-- their value, a number
pub number_taken : {s : Bytes} {i j n v : ℕ} {p : Span} → Gives s i (bytes n) part (λ t. within t n) p j → v ≡ value (part s p) → v < 256 ^ n → Gives s i (number n) itself (of_width n) v j
unfolding number
number_taken read e w = step _ read (rw (← e) (done w))

-- a string: its length within the limit, and its bytes
pub blob_taken : {s : Bytes} {i j m n limit : ℕ} {p : Span} → Gives s i (number 4) itself (of_width 4) n j → n ≤ limit → Gives s j (bytes n) part (λ t. within t n) p m → Gives s i (blob limit) part (λ t. within t limit) p m
unfolding blob
blob_taken {n = n} {limit} read h string =
    let short : Gives _ _ (bytes n) part (λ t. within t limit) _ _ = record { out = string.out; lies = (string.lies.0, omega arith) } in
    step _ read (tested 26 (le-leb n limit h) short)

pub below_power : {v m n : ℕ} → m ≤ n → v < 256 ^ m → v < 256 ^ n
below_power h k = lt_of_lt_of_le k (pow-le-pow_right {n = 256} (omega arith) h)
