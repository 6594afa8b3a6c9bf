-- `has_some`: the mark, and then the string.
use mathlib.Core.Path.{◌≡◌, sym, ap, ◌∙◌}
use mathlib.Core.Option.{some}
use Prim.Native.Nat.{ℕ, ◌+◌}
use native.Mathlib.Omega.{arith}
use borrow.Author.Tests.{ne_eqb}
use lib.ListN.{take, drop, get_or}
use Rattle.octets.specs.Bytes.{Bytes, same}
use Rattle.octets.specs.PartLaws.{part_drop}
use Rattle.definition.specs.Alarm.{same_maybe}
use Rattle.definition.specs.Slot.{string}
use Rattle.definition.proofs.Laws.Record.Slot.{part_first}
use Rattle.definition.specs.Record.{any_bytes}
use Rattle.record.specs.Meaning.{string_at, option_at}
use Rattle.record.proofs.has_some.Goals as goal

module _ (p s : Bytes) (at n : ℕ) where
  present :
      (get_or p at 0 ≡ 0 → ⊥) →
      same s (string_at n p (at + 1)) ≡ same_maybe same (some s) (option_at n p at)
  present h =
      let e : 3 + n ≡ 1 + (2 + n) = omega arith in
      let d : drop 1 (take (3 + n) (drop at p)) ≡ take (2 + n) (drop (at + 1) p) = ap (λ (m : ℕ). drop 1 (take m (drop at p))) e ∙ part_drop p at 1 (2 + n) in
      rw (part_first p at (3 + n) (omega arith), ne_eqb (get_or p at 0) 0 h) (ap (λ (x : Bytes). same s ((string n any_bytes).get x)) (sym d))

pub returns : goal.returns
returns c =
    c.equal.ensures ∙ ap (same c.args.s.now) c.string_of.ensures ∙ present c.args.p.now c.args.s.now c.args.at c.args.n c.if-p-at-eq0.false
