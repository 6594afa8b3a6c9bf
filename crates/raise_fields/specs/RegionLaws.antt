-- The region of a raise: when it has a byte.
use Rattle.std.specs.Prelude.{◌≡◌, refl, ℕ, zero, suc, ◌+◌, ◌≤◌, ltb, length, take, drop}
use Rattle.std.proofs.Math.Option.{some}
use Rattle.std.proofs.Common.{arith, lt-ltb, drop-cons}
use Rattle.octets.specs.Bytes.{Bytes}
use Rattle.definition.specs.Parse.{named}
use Rattle.model.specs.Meaning.{opt_part, opt_within}
use Rattle.model.specs.Meaning.{OptSpan}
use Rattle.std.specs.Prelude.{None, Some}
use Rattle.raise_fields.specs.Meaning.{named_span}

part_named : (call : Bytes) (at n : ℕ) → at + n ≤ length call → named (some (take n (drop at call))) ≡ ltb 0 n
part_named call at zero h = refl
part_named call at (suc n) h = rw (drop-cons call at 0 (omega arith), lt-ltb 0 (suc n) (omega arith))

-- a region has a byte unless its span is empty
pub region_named : (call : Bytes) (limit : ℕ) (r : OptSpan) → opt_within call limit r → named (opt_part call r) ≡ named_span r
region_named call limit None w = refl
region_named call limit (Some p) w = part_named call p.at p.len w.0
