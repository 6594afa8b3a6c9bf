-- `is_blank`: the or of the bytes passed is zero where they all are.
use mathlib.Core.Path.{◌∙◌, sym, ap}
use lib.Seq.{take_all}
use Rattle.octets.specs.Bytes.{blank}
use Rattle.octets.specs.BlankLaws.{blank_none, blank_step}
use Rattle.octets.proofs.is_blank.Goals as goal

pub loop-byte-init : goal.loop-byte-init
loop-byte-init c = sym blank_none

pub loop-byte-preserved : goal.loop-byte-preserved
loop-byte-preserved c =
    let l = c.loop-byte in
    blank_step c.args.s.now l.byte-index l.joined c.loop-byte-test.true l.invariant

pub returns : goal.returns
returns c =
    let l = c.loop-byte in
    l.invariant ∙ ap blank (take_all l.byte-index c.args.s.now c.loop-byte-test.false)
