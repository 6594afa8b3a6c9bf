-- `kept`: the six lower bits.
use mathlib.Core.Path.{sym, ◌∙◌}
use lib.Bits.{and_mask}
use Rattle.panel.specs.BlockLaws.{mask_kept}
use Rattle.panel.proofs.kept.Goals as goal

pub returns : goal.returns
returns c = and_mask c.args.mask 6 ∙ sym (mask_kept c.args.mask)
