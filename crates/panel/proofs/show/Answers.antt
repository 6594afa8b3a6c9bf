-- `show`: 30, or the block that is made of what the calls before give.
use mathlib.Core.Path.{ap, ◌∙◌}
use native.Mathlib.Omega.{arith}
use Rattle.octets.specs.Bytes.{Bytes, be32, splice}
use Rattle.panel.specs.BlockLaws.{other_width, made_anew}
use Rattle.panel.proofs.show.Goals as goal

pub returns-then-block-ne-WIDTH : goal.returns-then-block-ne-WIDTH
returns-then-block-ne-WIDTH c = other_width _ _ c.args.call (λ e. omega (arith, c.if-block-ne-WIDTH.true, e))

pub returns : goal.returns
returns c =
    -- after put32
    -- after put_bytes
    -- after lit
    -- after highest
    -- after kept
    -- after mask_of
    -- after flags
    made_anew _ _ _ c.args.call c.requires (omega (arith, c.if-block-ne-WIDTH.false)) c.flags-set.ensures c.mask_of.ensures c.kept-mask.ensures c.highest-top.ensures c.lit.ensures
    c.held.ensures (c.put32.ensures ∙ ap (λ (x : Bytes). splice x 4 (be32 c.held.result)) c.put_bytes.ensures)
