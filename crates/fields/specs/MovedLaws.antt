-- What was read of the part of a slice from a place on is carried over to the slice: `carried`, and `carried_refusal`.
use Rattle.std.specs.Prelude.{ℕ, ◌+◌, ◌-◌, ◌≤◌, ◌≡◌, refl, length, take, drop, None, Some}
use Rattle.std.proofs.Common.{sym, ap, ◌∙◌, arith, length-drop, drop-drop}
use Rattle.octets.specs.Bytes.{Bytes}
use Rattle.octets.specs.PartLaws.{part_rest}
use Rattle.definition.specs.Reader.{Reader}
use Rattle.model.specs.Meaning.{part, opt_part, cause_part, within, opt_within, cause_within, OptSpan}
use Rattle.model.specs.declared.Span.{Span}
use Rattle.model.specs.declared.refusal.Refusal.{Refusal}
use Rattle.model.specs.declared.CauseSpan.{CauseSpan}
use Rattle.model.specs.declared.CauseSpan.TheVariants.{Name, Other}
use Rattle.fields.specs.Reading.{Gives, Refuses, itself}
use Rattle.fields.specs.Moved.{span_on, option_on, option_start, cause_on, cause_start}

-- an answer moved by i means on a slice what it means on the part from i on, and lies in the slice where it lies in the part
pub record Moves {A B : Type 0} (value : Bytes → A → B) (within : Bytes → A → Type 0) (move : ℕ → A → A) : Type 0 where
  pub means : (s : Bytes) (i : ℕ) (a : A) → value s (move i a) ≡ value (drop i s) a
  pub lies : (s : Bytes) (i : ℕ) (a : A) → i ≤ length s → within (drop i s) a → within s (move i a)

-- a number has no place
pub number_moves : (within : ℕ → Type 0) → Moves itself (λ s. within) (λ i v. v)
number_moves within = record { means = λ s i a. refl; lies = λ s i a h w. w }

module _ (s : Bytes) (i : ℕ) (p : Span) where
  span_means : part s (span_on i p) ≡ part (drop i s) p
  span_means = ap (take p.len) (sym (drop-drop p.at i s))

  span_lies : i ≤ length s → p.at + p.len ≤ length (drop i s) → i + p.at + p.len ≤ length s
  span_lies h w = omega (arith, length-drop i s)

pub span_moves : (limit : ℕ) → Moves part (λ s. within s limit) span_on
span_moves limit = record { means = span_means; lies = λ s i p h w. (span_lies s i p h w.0, w.1) }

module _ (s : Bytes) (i : ℕ) where
  option_means : (a : OptSpan) → opt_part s (option_on i a) ≡ opt_part (drop i s) a
  option_means None = refl
  option_means (Some p) = rw (span_means s i p)

  option_lies : (limit : ℕ) (a : OptSpan) → i ≤ length s → opt_within (drop i s) limit a → opt_within s limit (option_on i a)
  option_lies limit None h w = tt
  option_lies limit (Some p) h w = (span_lies s i p h w.0, w.1)

  cause_means : (a : CauseSpan) → cause_part s (cause_on i a) ≡ cause_part (drop i s) a
  cause_means (Name k) = refl
  cause_means (Other p) = rw (span_means s i p)

  cause_lies : (a : CauseSpan) → i ≤ length s → cause_within (drop i s) a → cause_within s (cause_on i a)
  cause_lies (Name k) h w = w
  cause_lies (Other p) h w = (span_lies s i p h w.0, w.1)

pub option_moves : (limit : ℕ) → Moves opt_part (λ s. opt_within s limit) option_on
option_moves limit = record { means = option_means; lies = λ s i. option_lies s i limit }

pub cause_moves : Moves cause_part cause_within cause_on
cause_moves = record { means = cause_means; lies = cause_lies }

-- what lies in a part starts in it

pub option_starts : (left : Bytes) (limit : ℕ) (p : OptSpan) → opt_within left limit p → option_start p ≤ length left
option_starts left limit None w = omega arith
option_starts left limit (Some p) w = omega arith

pub cause_starts : (left : Bytes) (p : CauseSpan) → cause_within left p → cause_start p ≤ length left
cause_starts left (Name k) w = omega arith
cause_starts left (Other p) w = omega arith

pub length_part_rest : (s : Bytes) (i : ℕ) → length (take (length s - i) (drop i s)) ≡ length s - i
length_part_rest s i = ap length (part_rest s i) ∙ length-drop i s

-- ---- an answer of the part from i on, in the slice's places

module _ {B : Type 0} {s left : Bytes} {i : ℕ} {r : Reader B} (l : left ≡ drop i s) where
  pub carried_refusal : {e : Refusal} → Refuses left 0 r e → Refuses s i r e
  carried_refusal a = record { out = ap r (sym l) ∙ a.out }

  pub carried : {A : Type 0} {n : ℕ} {value : Bytes → A → B} {within : Bytes → A → Type 0} {move : ℕ → A → A} {a : A} → Moves value within move → i ≤ length s → Gives left 0 r value within a n → Gives s i r value within (move i a) (i + n)
  carried {n = n} {a = a} m h read =
      let g = rw l at read in
      record { out = rw (← drop-drop n i s, m.means s i a) g.out; lies = m.lies s i a h g.lies }
