-- `measure`: the entries of the places passed, and where they end.
use Prim.Native.Nat.{ℕ, ◌+◌, ◌≤◌}
use mathlib.Core.Logic.{inl, inr}
use mathlib.Core.Path.{refl, ap, ◌∙◌}
use native.Mathlib.Omega.{arith}
use Rattle.std.specs.Iterator.Adapters.{zip_first}
use Rattle.octets.specs.Bytes.{at32}
use Rattle.history.specs.PlaceLaws.{ahead_end}
use Rattle.history.specs.WalkLaws.{reached_fits, reached_most}
use Rattle.history.specs.CountLaws.{more_if, one_at_most}
use Rattle.metrics.specs.RowLaws.{ahead_from, ahead_place}
use Rattle.metrics.specs.ListingLaws.{measured_rows, measured_small, measured_next, measured_all}
use Rattle.metrics.proofs.measure.Goals as goal

pub rows_end-end-requires : goal.rows_end-end-requires
rows_end-end-requires c =
    (c.requires.1.room, c.requires.1.fit, c.requires.1.records)

pub loop-k-init : goal.loop-k-init
loop-k-init c =
    let z = c.zip-k-items.ensures in
    rw (c.into_iter-k-iterator.ensures.into_iter_gives, z.first) (measured_rows c.requires.1 (ahead_from c.requires.1.reached z.second c.behind.ensures) refl c.rows_end-end.ensures, c.held.ensures)

pub is_first-first-requires : goal.is_first-first-requires
is_first-first-requires c =
    let w = c.loop-k.invariant.0 in
    let s = c.in-Some.ensures.steps in
    (c.requires.1, rw (s.0.1.1) (ahead_place w.ahead s.1), rw (s.0.1.1) (w.passed))

pub overflow_cast-entries : goal.overflow_cast-entries
overflow_cast-entries c = omega (arith, c.requires.1.room)

pub overflow_add-entries : goal.overflow_add-entries
overflow_add-entries c =
    let w = c.loop-k.invariant.0 in
    let here = ahead_place w.ahead c.in-Some.ensures.steps.1 in
    omega (arith, w.few, here.within, reached_most here.reached, c.from-entries.ensures, one_at_most c.is_first-first.result)

pub entry_length-end-requires : goal.entry_length-end-requires
entry_length-end-requires c =
    let here = ahead_place c.loop-k.invariant.0.ahead c.in-Some.ensures.steps.1 in
    reached_fits here.reached here.within

pub overflow_add-end : goal.overflow_add-end
overflow_add-end c =
    let s = c.in-Some.ensures.steps in
    omega (arith, measured_small c.loop-k.invariant.0 s.1 (rw (s.0.1.1) at c.is_first-first.ensures) c.entry_length-end.ensures)

pub loop-k-preserved : goal.loop-k-preserved
loop-k-preserved c =
    let s = c.in-Some.ensures.steps in
    let more = ap (λ (x : ℕ). c.loop-k.entries + x) c.from-entries.ensures ∙ more_if c.is_first-first.result c.loop-k.entries in
    (rw (s.0.1.2) (measured_next c.loop-k.invariant.0 s.1 (rw (s.0.1.1) at c.is_first-first.ensures) c.entry_length-end.ensures more), s.0.0 ∙ c.loop-k.invariant.1)

pub returns : goal.returns
returns c =
    let w = c.loop-k.invariant in
    let behind : at32 c.args.register.now 16 ≤ (zip_first c.loop-k.k-iterator).start = elim c.in-None.ensures.steps [
      | inl u ↦ omega (arith, w.1, u.1.1.0)
      | inr u ↦ ahead_end w.0.ahead u.1.0
    ] in
    let m = measured_all w.0 behind in
    record { entries_value = m.0; end_value = m.1 }
