-- `highest`: what the leading zeros leave of eight bits.
use lib.Bits.{bit_and, and_lt}
use lib.Count.{leading_le}
use Rattle.panel.specs.BitLaws.{leading_highest}
use Rattle.panel.proofs.highest.Goals as goal

pub overflow_sub-result : goal.overflow_sub-result
overflow_sub-result c = leading_le 8 _

pub returns : goal.returns
returns c =
    leading_highest 8 (bit_and c.args.flags c.args.mask)
    (and_lt 8 c.args.flags c.args.mask c.ranges.flags.fits c.ranges.mask.fits)
