-- Three bytes are enough to see white space, and the first alone where it is below C2.
use Rattle.std.proofs.Common.{sym, get_or}
use Rattle.definition.proofs.Laws.Text.White.{space_front, space_le}
use Rattle.cause.proofs.Spaces.{by_first, within_at}
use Rattle.definition.specs.White.{space}
use Rattle.cause.proofs.white.space.Goals as goal

pub returns-then-first-lt194-clause-tells : goal.returns-then-first-lt194-clause-tells
returns-then-first-lt194-clause-tells c =
    let s = c.args.s.now in
    rw (by_first _ (get_or s 1 0) (get_or s 2 0) c.if-first-lt194.true, c.byte_at-first.ensures, sym (space_front s)) at c.space_of.ensures

pub returns-then-first-lt194-clause-within : goal.returns-then-first-lt194-clause-within
returns-then-first-lt194-clause-within c =
    within_at _ (space c.args.s.now) _ (space_le c.args.s.now) (returns-then-first-lt194-clause-tells c)

pub returns-clause-tells : goal.returns-clause-tells
returns-clause-tells c =
    rw (c.byte_at-first.ensures, c.byte_at.ensures, c.byte_at-2.ensures, sym (space_front c.args.s.now)) at c.space_of-2.ensures

pub returns-clause-within : goal.returns-clause-within
returns-clause-within c =
    within_at _ (space c.args.s.now) _ (space_le c.args.s.now) (returns-clause-tells c)
