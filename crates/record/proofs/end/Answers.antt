-- `end`: the mark, and then the time.
use mathlib.Core.Path.{◌≡◌, sym, ap, ◌∙◌}
use mathlib.Core.Option.{Option, none, some}
use Prim.Native.Nat.{ℕ}
use native.Mathlib.Omega.{arith}
use borrow.Author.Tests.{eq-eqb, ne_eqb}
use lib.ListN.{take, drop, get_or}
use Rattle.octets.specs.Bytes.{Bytes, value}
use Rattle.octets.specs.PartLaws.{part_drop}
use Rattle.definition.specs.Slot.{cut}
use Rattle.definition.proofs.Laws.Record.Slot.{part_first}
use Rattle.definition.specs.Record.{read_alarm}
use Rattle.record.proofs.end.Goals as goal

module _ (p : Bytes) where
  absent : get_or p 1451 0 ≡ 0 → none ≡ (read_alarm p).end
  unfolding read_alarm cut
  absent h = rw (part_first p 1451 9 (omega arith), eq-eqb (get_or p 1451 0) 0 h)

  present : (get_or p 1451 0 ≡ 0 → ⊥) → some (value (take 8 (drop 1452 p))) ≡ (read_alarm p).end
  unfolding read_alarm cut
  present h = rw (part_first p 1451 9 (omega arith), ne_eqb (get_or p 1451 0) 0 h) (ap (λ (x : Bytes). some (value x)) (sym (part_drop p 1451 1 8)))

pub returns-then-p-eq0 : goal.returns-then-p-eq0
returns-then-p-eq0 c = absent c.args.p.now c.if-p-eq0.true

pub returns : goal.returns
returns c = ap {B = Option ℕ} some c.get64.ensures ∙ present c.args.p.now c.if-p-eq0.false
