-- `put_hex` meets its contract: the digits of the bytes passed are in their place.
use mathlib.Core.Path.{sym}
use native.Mathlib.Omega.{arith}
use Rattle.octets.specs.SpliceLaws.{splice_none}
use Rattle.definition.specs.Key.{hex}
use Rattle.key.proofs.HexLaws.{hex_step}
use Rattle.key.proofs.put_hex.Goals as goal

pub loop-i-init : goal.loop-i-init
unfolding hex
loop-i-init c = sym (splice_none _ _)

pub loop-i-preserved : goal.loop-i-preserved
loop-i-preserved c =
    rw (c.hex_digit.ensures, c.hex_digit-in-loop-i.ensures)
    (hex_step c.args.answer.now c.loop-i.answer c.args.key.now c.args.at c.loop-i.i (omega arith) (omega arith) c.loop-i.auto.answer c.loop-i.invariant)
