-- `updated_by`: severity, text, details, state, time and raises, one after the other.
use mathlib.Core.Path.{◌∙◌, ap}
use Rattle.definition.specs.Alarm.{late}
use Rattle.definition.specs.Steps.{updated_state, one_more_raise}
use Rattle.definition.specs.Limits.{text_limit}
use Rattle.record.specs.LentLaws.{lent_fits}
use Rattle.changes.specs.Meaning.{news_of}
use Rattle.changes.specs.ChangeLaws.{updated}
use Rattle.changes.proofs.updated_by.Goals as goal

pub set_text-requires : goal.set_text-requires
set_text-requires c = lent_fits c.args.call.now text_limit c.args.news.text c.part.ensures c.requires.1.text

pub returns : goal.returns
returns c =
    updated _ c.requires.0 (news_of c.args.call.now c.args.news) _ _ _ _ _ _ _ _ _
    (c.updated_state-s.ensures ∙ ap updated_state c.state.ensures) (c.late-t.ensures ∙ ap (late c.args.news.time) c.raised_at.ensures)
    (c.one_more_raise-n.ensures ∙ ap one_more_raise c.raises.ensures)
    c.set_severity.ensures.alarm (rw c.part.ensures at c.set_text.ensures.alarm) c.set_details.ensures c.set_state.ensures.alarm c.set_updated.ensures.alarm
    c.set_raises.ensures.alarm
