-- `put_entries`: the entries of the rows and of the places passed stand in the answer.
use Prim.Native.Nat.{◌≤◌}
use mathlib.Core.Logic.{inl, inr}
use mathlib.Core.Path.{◌∙◌}
use native.Mathlib.Omega.{arith}
use Rattle.std.specs.Iterator.Adapters.{zip_first}
use Rattle.octets.specs.Bytes.{at32}
use Rattle.history.specs.PlaceLaws.{ahead_end}
use Rattle.metrics.specs.RowLaws.{ahead_from, ahead_place}
use Rattle.metrics.specs.ListingLaws.{rows_fit, rows_begun, written_none, written_fits, written_next, written_length, written_all}
use Rattle.metrics.proofs.put_entries.Goals as goal

pub put_rows-end-requires : goal.put_rows-end-requires
put_rows-end-requires c =
    (c.requires.2, rows_fit c.requires.1 c.requires.2 c.args.answer.now c.requires.3)

pub loop-k-init : goal.loop-k-init
loop-k-init c =
    let z = c.zip-k-items.ensures in
    rw (c.into_iter-k-iterator.ensures.into_iter_gives, z.first) (written_none _ _ (ahead_from c.requires.1.reached z.second c.behind.ensures), c.held.ensures)

pub is_first-first-requires : goal.is_first-first-requires
is_first-first-requires c =
    let w = c.loop-k.invariant.0 in
    let s = c.in-Some.ensures.steps in
    (c.requires.1, rw (s.0.1.1) (ahead_place w.ahead s.1), rw (s.0.1.1) (w.passed))

pub put_entry-end-requires : goal.put_entry-end-requires
put_entry-end-requires c =
    let w = c.loop-k.invariant.0 in
    let s = c.in-Some.ensures.steps in (
      c.requires.0,
      rw (s.0.1.1) (ahead_place w.ahead s.1),
      c.is_first-first.ensures,
      written_fits w s.1 (rw (s.0.1.1) at c.is_first-first.ensures) (rows_begun c.requires.1 c.requires.2 c.requires.3 c.put_rows-end.ensures),
    )

pub loop-k-preserved : goal.loop-k-preserved
loop-k-preserved c =
    let s = c.in-Some.ensures.steps in
    (rw (s.0.1.2) (written_next c.loop-k.invariant.0 s.1 (rw (s.0.1.1) at c.is_first-first.ensures) c.put_entry-end.ensures), s.0.0 ∙ c.loop-k.invariant.1)

pub shape_of-answer : goal.shape_of-answer
shape_of-answer c =
    written_length c.loop-k.invariant.0 (rows_begun c.requires.1 c.requires.2 c.requires.3 c.put_rows-end.ensures)

pub returns : goal.returns
returns c =
    let w = c.loop-k.invariant in
    let behind : at32 c.args.register.now 16 ≤ (zip_first c.loop-k.k-iterator).start = elim c.in-None.ensures.steps [
      | inl u ↦ omega (arith, w.1, u.1.1.0)
      | inr u ↦ ahead_end w.0.ahead u.1.0
    ] in
    written_all w.0 (rows_begun c.requires.1 c.requires.2 c.requires.3 c.put_rows-end.ensures) behind
