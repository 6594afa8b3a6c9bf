-- `read_raise` meets its contract: behind a region that has a byte, text and details are read.
use Rattle.std.proofs.Common.{sym, ◌∙◌}
use Rattle.definition.specs.Limits.{region_limit}
use Rattle.definition.specs.Parse.{raise_fields, raise_body}
use Rattle.fields.specs.ReadingLaws.{step, stops, passes, done, tested, along, along_stopped, handed}
use Rattle.raise_fields.specs.RegionLaws.{region_named}
use Rattle.raise_fields.proofs.read_raise.Goals as goal

pub returns-in_err-text : goal.returns-in_err-text
unfolding raise_fields raise_body
returns-in_err-text c =
    let key = along c.in_ok-head.ensures.1 c.in_ok-key.ensures in
    let named = region_named _ region_limit c.in_ok-key.key.places.region key.0.lies.places.region ∙ sym c.is_named.ensures ∙ c.if-not-is_named.false in
    let text = along_stopped key.1 c.in_err-text.ensures.reads in
    rw (handed _ c.from_residual-in_err-text.ensures)
    (passes _ c.in_ok-head.ensures.0 (passes _ key.0 (rw named (stops _ text.0))), text.1)

pub returns-in_err-details : goal.returns-in_err-details
unfolding raise_fields raise_body
returns-in_err-details c =
    let key = along c.in_ok-head.ensures.1 c.in_ok-key.ensures in
    let named = region_named _ region_limit c.in_ok-key.key.places.region key.0.lies.places.region ∙ sym c.is_named.ensures ∙ c.if-not-is_named.false in
    let text = along key.1 c.in_ok-text.ensures.reads in
    let details = along_stopped text.1 c.in_err-details.ensures.reads in
    rw (handed _ c.from_residual-in_err-details.ensures)
    (passes _ c.in_ok-head.ensures.0 (passes _ key.0 (rw named (passes _ text.0 (stops _ details.0)))), details.1)

pub returns : goal.returns
unfolding raise_fields raise_body
returns c =
    let key = along c.in_ok-head.ensures.1 c.in_ok-key.ensures in
    let named = region_named _ region_limit c.in_ok-key.key.places.region key.0.lies.places.region ∙ sym c.is_named.ensures ∙ c.if-not-is_named.false in
    let text = along key.1 c.in_ok-text.ensures.reads in
    let details = along text.1 c.in_ok-details.ensures.reads in (
      step _ c.in_ok-head.ensures.0 (step _ key.0 (tested _ named (step _ text.0 (step _ details.0 (done (record { head = c.in_ok-head.ensures.0.lies; key = key.0.lies; text = text.0.lies; details = details.0.lies })))))),
      details.1,
    )
