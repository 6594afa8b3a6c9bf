-- A part of a call that lies within a limit is no longer than it: for functions that hand a part on to one that asks for a short string.
use Rattle.std.specs.Prelude.{ℕ, ◌≤◌, ◌≡◌, length, drop}
use Rattle.std.proofs.Common.{ap, ◌∙◌, arith, length-take}
use Rattle.octets.specs.Bytes.{Bytes}
use Rattle.model.specs.declared.Span.{Span}
use Rattle.model.specs.Meaning.{part, within}

pub part_short : (call : Bytes) (n : ℕ) (p : Span) {s : Bytes} → s ≡ part call p → within call n p → length s ≤ n
part_short call n p e w = omega (arith, ap length e ∙ length-take p.len (drop p.at call))
