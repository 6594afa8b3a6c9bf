-- The string that is put behind its length is the cause.
use mathlib.Core.Path.{ap, ◌∙◌}
use native.Mathlib.Omega.{arith}
use Rattle.octets.specs.Bytes.{Bytes, splice}
use Rattle.definition.specs.Slot.{string_bytes}
use Rattle.model.specs.Meaning.{cause_part}
use Rattle.strings.specs.WritingLaws.{in_slice, written_is}
use Rattle.build.proofs.Lent.{length_before, string_behind}
use Rattle.build.proofs.about.cause_into.Goals as goal

pub written-requires : goal.written-requires
written-requires c = in_slice c.put_cause.ensures

pub slice_bounds-cause-count : goal.slice_bounds-cause-count
slice_bounds-cause-count c =
    omega (arith, length_before (cause_part c.args.call.now c.args.c) (c.written.ensures ∙ written_is c.new-writer.ensures.place c.put_cause.ensures))

pub slice_bounds-cause-start : goal.slice_bounds-cause-start
slice_bounds-cause-start c =
    omega (arith, length_before (cause_part c.args.call.now c.args.c) (c.written.ensures ∙ written_is c.new-writer.ensures.place c.put_cause.ensures))

pub returns : goal.returns
returns c =
    let behind = string_behind (cause_part c.args.call.now c.args.c) (c.written.ensures ∙ written_is c.new-writer.ensures.place c.put_cause.ensures) in
    c.put_string.ensures ∙ ap (λ (x : Bytes). splice c.args.p.now 175 (string_bytes 96 x)) behind
