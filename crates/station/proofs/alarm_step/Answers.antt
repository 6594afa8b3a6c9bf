-- `alarm_step`: the step's reply, as it is told.
use mathlib.Core.Path.{◌∙◌}
use Rattle.station.proofs.alarm_step.Goals as goal

pub returns : goal.returns
returns c =
    record { number_is = c.tell.ensures.value ∙ c.step.ensures.number_is; length_is = c.tell.ensures.length_after ∙ c.step.ensures.length_is; answer_is = c.step.ensures.answer_is; register_is = c.step.ensures.register_is }
