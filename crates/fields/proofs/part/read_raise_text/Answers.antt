-- `read_raise_text` meets its contract: a text, and then whether it has at most 120 code points.
use Rattle.std.proofs.Common.{sym, ◌∙◌, ap, ◌≡◌, ℕ, ◌<◌, ◌≤◌, false, true, leb, rules}
use Rattle.definition.specs.Limits.{code_point_limit}
use Rattle.definition.specs.Utf8.{code_points, is_run, at_most, utf8}
use Rattle.definition.specs.Reader.{text}
use Rattle.definition.specs.Parse.{raise_text}
use Rattle.fields.specs.ReadingLaws.{step, stops, passes, done, tested, fails, handed}
use Rattle.fields.specs.StringKindLaws.{obeying, disobeying}
use Rattle.fields.specs.declared.StringKind.TheVariants.{Text}
use Rattle.fields.proofs.part.read_raise_text.Goals as goal

pub returns-in_err-string : goal.returns-in_err-string
unfolding raise_text text
returns-in_err-string c = rw (handed _ c.from_residual.ensures) (stops _ (stops _ c.in_err-string.ensures))

pub returns-in_default : goal.returns-in_default
unfolding utf8 raise_text
returns-in_default c =
    let form = c.in_default.ensures ∙ ap code_points c.part.ensures in
    stops _ (disobeying Text c.in_ok-string.ensures.0 (ap is_run (sym form)))

-- the number of code points that was counted, and the limit
within_limit : (k : ℕ) → k ≤ code_point_limit → leb k code_point_limit ≡ true
within_limit k h = search rules

beyond_limit : (k : ℕ) → code_point_limit < k → leb k code_point_limit ≡ false
beyond_limit k h = search rules

pub returns-then-code_points-limit : goal.returns-then-code_points-limit
unfolding utf8 raise_text
returns-then-code_points-limit c =
    let form = c.in-Some.ensures ∙ ap code_points c.part.ensures in
    let read = obeying Text c.in_ok-string.ensures.0 (ap is_run (sym form)) in
    passes _ read (fails _ (ap (at_most code_point_limit) (sym form) ∙ beyond_limit _ c.if-code_points-limit.true))

pub returns : goal.returns
unfolding utf8 raise_text
returns c =
    let form = c.in-Some.ensures ∙ ap code_points c.part.ensures in
    let read = obeying Text c.in_ok-string.ensures.0 (ap is_run (sym form)) in
    (step _ read (tested _ (ap (at_most code_point_limit) (sym form) ∙ within_limit _ c.if-code_points-limit.false) (done c.in_ok-string.ensures.0.lies)), c.in_ok-string.ensures.1)
