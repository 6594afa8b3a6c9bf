-- At each place the bytes left are a run where s is one.
use mathlib.Core.Path.{◌∙◌, ap}
use native.Mathlib.Omega.{arith}
use lib.ListN.{length, length-drop}
use Rattle.octets.specs.PartLaws.{part_rest}
use Rattle.definition.specs.Utf8.{utf8}
use Rattle.utf8.proofs.Runs.{Passes, passes_ahead, stuck_ahead}
use Rattle.utf8.proofs.is_run.Goals as goal

pub loop-n-preserved : goal.loop-n-preserved
loop-n-preserved c =
    let p : Passes c.in-Some.n c.loop-n.rest.now = passes_ahead _ _ c.in-Some.ensures in
    ap utf8 (part_rest c.loop-n.rest.now c.in-Some.n) ∙ p.goes_on ∙ c.loop-n.invariant

pub loop-n-smaller : goal.loop-n-smaller
loop-n-smaller c =
    let p : Passes c.in-Some.n c.loop-n.rest.now = passes_ahead _ _ c.in-Some.ensures in
    omega (arith, p, ap length (part_rest c.loop-n.rest.now c.in-Some.n), length-drop c.in-Some.n c.loop-n.rest.now)

pub slice_bounds-rest-count : goal.slice_bounds-rest-count
slice_bounds-rest-count c =
    let p : Passes c.in-Some.n c.loop-n.rest.now = passes_ahead _ _ c.in-Some.ensures in
    omega (arith, p)

pub slice_bounds-rest-start : goal.slice_bounds-rest-start
slice_bounds-rest-start c =
    let p : Passes c.in-Some.n c.loop-n.rest.now = passes_ahead _ _ c.in-Some.ensures in
    omega (arith, p)

pub returns : goal.returns
returns c = c.is_empty.ensures ∙ stuck_ahead _ c.in_default.ensures ∙ c.loop-n.invariant
