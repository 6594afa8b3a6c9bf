-- The rows in the order in which the match is compiled: single first bytes, then ranges of them.
use mathlib.Core.Path.{◌∙◌}
use native.Mathlib.Omega.{arith}
use Rattle.definition.proofs.Laws.Text.Utf8.{rests}
use Rattle.utf8.proofs.Rows.{row_on, row_none, row_ascii, row_end}
use Rattle.utf8.proofs.character.Goals as goal

pub returns-in-224 : goal.returns-in-224
unfolding rests
returns-in-224 c = c.row.ensures ∙ row_on _ _ 1 0xE0 tt _ (omega arith) (omega arith) (omega arith) (omega arith)

pub returns-in-237 : goal.returns-in-237
unfolding rests
returns-in-237 c = c.row-in-237.ensures ∙ row_on _ _ 1 0xED tt _ (omega arith) (omega arith) (omega arith) (omega arith)

pub returns-in-240 : goal.returns-in-240
unfolding rests
returns-in-240 c = c.row-in-240.ensures ∙ row_on _ _ 1 0xF0 tt _ (omega arith) (omega arith) (omega arith) (omega arith)

pub returns-in-244 : goal.returns-in-244
unfolding rests
returns-in-244 c = c.row-in-244.ensures ∙ row_on _ _ 1 0xF4 tt _ (omega arith) (omega arith) (omega arith) (omega arith)

pub returns-in-0-to-127 : goal.returns-in-0-to-127
returns-in-0-to-127 c = row_ascii _ (omega arith) (omega arith)

pub returns-in-194-to-223 : goal.returns-in-194-to-223
unfolding rests
returns-in-194-to-223 c = c.row-in-194-to-223.ensures ∙ row_on _ _ 30 0xC2 tt _ (omega arith) (omega arith) (omega arith) (omega arith)

pub returns-in-225-to-236 : goal.returns-in-225-to-236
unfolding rests
returns-in-225-to-236 c = c.row-in-225-to-236.ensures ∙ row_on _ _ 12 0xE1 tt _ (omega arith) (omega arith) (omega arith) (omega arith)

pub returns-in-238-to-239 : goal.returns-in-238-to-239
unfolding rests
returns-in-238-to-239 c = c.row-in-238-to-239.ensures ∙ row_on _ _ 2 0xEE tt _ (omega arith) (omega arith) (omega arith) (omega arith)

pub returns-in-241-to-243 : goal.returns-in-241-to-243
unfolding rests
returns-in-241-to-243 c = c.row-in-241-to-243.ensures ∙ row_on _ _ 3 0xF1 tt _ (omega arith) (omega arith) (omega arith) (omega arith)

pub returns-in_default : goal.returns-in_default
returns-in_default c = row_end _ (omega arith)

pub returns-in_default-first : goal.returns-in_default-first
unfolding rests
returns-in_default-first c = row_none 66 0x80 tt _ (omega arith) (omega arith) (omega arith)

pub returns-in_default-first-2 : goal.returns-in_default-first-2
unfolding rests
returns-in_default-first-2 c =
    let k = c.type_inv.s 0 in
    row_none 11 0xF5 tt _ (omega arith) (omega arith) (omega (arith, k))
