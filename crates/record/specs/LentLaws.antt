-- A part of a call that is lent to fill a slot.
use Rattle.std.specs.Prelude.{◌≡◌, ℕ, ◌≤◌, length}
use Rattle.std.proofs.Common.{ap, arith}
use Rattle.octets.specs.Bytes.{Bytes}
use Rattle.octets.specs.PartLaws.{part_length}
use Rattle.model.specs.declared.Span.{Span}
use Rattle.model.specs.Meaning.{part, within}

-- it is as long as the slot has room
pub lent_fits : (call : Bytes) (n : ℕ) (s : Span) {p : Bytes} → p ≡ part call s → within call n s → length p ≤ n
lent_fits call n s e w = omega (arith, ap length e, part_length call s.at s.len w.0)
