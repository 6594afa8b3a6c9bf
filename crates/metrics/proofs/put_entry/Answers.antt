-- `put_entry`: nothing, or the entry by its fields.
use mathlib.Core.Path.{sym, ◌∙◌}
use mathlib.Core.List.{◌∷◌, ◌++◌}
use native.Mathlib.Omega.{arith}
use Rattle.octets.specs.Bytes.{be32}
use Rattle.octets.specs.PutLaws.{put_as}
use Rattle.definition.specs.Key.{string}
use Rattle.definition.specs.Reports.{count_of}
use Rattle.answers.specs.AnswerLaws.{put_none}
use Rattle.history.specs.WalkLaws.{reached_fits}
use Rattle.metrics.specs.Meaning.{ratings, rating_at}
use Rattle.metrics.specs.ListingLaws.{entry_fits}
use Rattle.metrics.proofs.put_entry.Goals as goal

pub returns-then-not-first : goal.returns-then-not-first
returns-then-not-first c =
    rw (c.if-not-first.true) (put_none _ _ (omega (arith, c.requires.3)))

pub amount-requires : goal.amount-requires
amount-requires c =
    (c.requires.0, c.requires.1, sym c.requires.2 ∙ c.if-not-first.false)

pub put_count-requires : goal.put_count-requires
put_count-requires c =
    let n = (count_of (ratings c.args.register.now) (rating_at c.args.register.now c.args.i)).amount in
    let room = rw (c.if-not-first.false) at c.requires.3 in
    entry_fits c.args.register.now c.args.i n _ _ _ c.cause.ensures room

pub returns : goal.returns
returns c =
    rw (c.if-not-first.false)
    (put_as (λ j. c.severity.ensures j ∷ (be32 (c.amount.ensures j) ++ string (c.cause.ensures j))) c.put_count.ensures)

pub severity-requires : goal.severity-requires
severity-requires c = reached_fits c.requires.1.reached c.requires.1.within

pub cause-requires : goal.cause-requires
cause-requires c = reached_fits c.requires.1.reached c.requires.1.within
