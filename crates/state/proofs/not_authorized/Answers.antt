-- `not_authorized`: the message of the action.
use mathlib.Core.Path.{◌≡◌, refl, sym, ap}
use Rattle.octets.specs.PutLaws.{put_as}
use Rattle.definition.specs.Key.{string}
use Rattle.definition.specs.Steps.{not_authorized}
use Rattle.definition.specs.Answer.{Unauthorized}
use Rattle.answers.specs.AnswerLaws.{answer_as}
use Rattle.model.specs.Meaning.{action_of}
use Rattle.state.proofs.not_authorized.Goals.{in-Acknowledge, in-Suppress}
use Rattle.state.proofs.not_authorized.Goals as goal

pub returns : goal.returns
returns c =
    let told : c.match-action.message.now ≡ not_authorized (action_of c.args.action) =
    elim c.match-action.branch [
      | in-Acknowledge w ↦ rw (w.in-Acknowledge.is, w.message-is) refl
      | in-Suppress w ↦ rw (w.in-Suppress.is, w.message-is) refl
    ] in
    put_as (answer_as (Unauthorized (not_authorized (action_of c.args.action))) refl (ap string (sym told))) c.put_text.ensures
