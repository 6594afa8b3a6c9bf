-- The ruler lies along the room with its highest bits over the string.
use mathlib.Core.Path.{ap, ◌∙◌}
use Prim.Native.Nat.{◌-◌}
use native.Mathlib.Omega.{arith}
use lib.ListN.{length, take, drop}
use Rattle.octets.specs.Bytes.{Bytes, blank}
use Rattle.definition.proofs.Laws.Record.Slot.{part_lent}
use Rattle.record_check.specs.Ruler.{under}
use Rattle.record_check.specs.RulerLaws.{left_of_room}
use Rattle.record_check.proofs.ruler.Ruler.is_plain.Goals as goal

pub returns : goal.returns
returns c =
    c.is_clear.ensures
    ∙ ap (λ (r : Bytes). blank (under c.args.room.now r)) (part_lent c.args.self.now.bytes (512 - c.args.m) (length c.args.room.now))
    ∙ ap (λ (r : Bytes). blank (under c.args.room.now (take (length c.args.room.now) (drop (512 - c.args.m) r)))) c.args.self.now.is_ruler
    ∙ left_of_room c.args.room.now c.args.m c.requires.0 c.requires.1 (λ i. omega (arith, c.type_inv.room i))
