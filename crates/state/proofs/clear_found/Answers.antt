-- `clear_found`: the payload is taken out, changed and goes into history; the answer is the id.
use Prim.Native.Nat.{◌≤◌}
use native.Mathlib.Omega.{arith}
use borrow.Author.Rules.{rules}
use lib.ListN.{length}
use Rattle.state.specs.ClearLaws.{cleared_payload, cleared_short, clears}
use Rattle.state.proofs.clear_found.Goals as goal

pub load-p-requires : goal.load-p-requires
load-p-requires c = (c.requires.0.whole, c.requires.1.on)

pub cleared_by-requires : goal.cleared_by-requires
cleared_by-requires c = c.load-p.ensures.1

pub retire-requires : goal.retire-requires
retire-requires c =
    (c.requires.0, c.requires.1, (cleared_payload _ _ _ _ _ c.requires.0.whole c.requires.1.on (search rules) c.load-p.ensures.0 c.cleared_by.ensures).0)

pub put_text-requires : goal.put_text-requires
put_text-requires c =
    let k : length c.id.result.now ≤ 64 =
    rw c.id.ensures (cleared_short _ _ _ _ _ c.requires.0.whole c.requires.1.on (search rules) c.load-p.ensures.0 c.cleared_by.ensures) in (omega (arith, k, c.requires.2), omega (arith, k))

pub returns : goal.returns
returns c =
    clears _ _ _ _ _ c.requires.0.whole c.requires.1.on (search rules) c.load-p.ensures.0 c.cleared_by.ensures _ _ _ _ _ _ c.retire.ensures c.id.ensures c.put_text.ensures
