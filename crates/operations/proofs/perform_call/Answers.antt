-- `perform_call`: no room, 30; else the dispatch.
use mathlib.Core.Path.{sym, ◌∙◌}
use Rattle.std.proofs.Common.{ℕ, ◌≡◌, Bool, false, ◌&&◌, ltb}
use Rattle.definition.specs.Value.{CallValue, op_of}
use Rattle.definition.specs.Perform.{asks_record}
use Rattle.call.specs.Meaning.{meaning}
use Rattle.reply.specs.Meaning.{numbered}
use Rattle.operations.specs.Meaning.{HasRoom}
use Rattle.operations.specs.RoomLaws.{lacks, suffices, no_room, has_room}
use Rattle.operations.proofs.perform_call.Goals as goal

pub returns-then-asks_record-lacks : goal.returns-then-asks_record-lacks
returns-then-asks_record-lacks c =
    let l = lacks c.asks_record.result _ c.if-asks_record-lacks.true in
    no_room (meaning c.args.call.now c.args.parsed) _ _ _ (sym (c.asks_record.ensures _) ∙ l.0) l.1

-- the test was passed
roomy : (v : CallValue) (n : ℕ) {x : Bool} → x ≡ asks_record (op_of v) → x && ltb n 1552 ≡ false → HasRoom v n
roomy v n {x = x} w f q = suffices x n f (w ∙ q)

pub dispatch-requires : goal.dispatch-requires
dispatch-requires c =
    record { called = c.requires; has_room = roomy (meaning c.args.call.now c.args.parsed) _ (c.asks_record.ensures _) c.if-asks_record-lacks.false }

pub returns : goal.returns
returns c =
    let v = meaning c.args.call.now c.args.parsed in
    has_room v _ (numbered c.dispatch.result) _ _ _ _ (roomy v _ (c.asks_record.ensures _) c.if-asks_record-lacks.false) c.dispatch.ensures
