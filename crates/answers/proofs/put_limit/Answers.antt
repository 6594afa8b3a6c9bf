-- `put_limit` meets its contract: the key is the whole body.
use mathlib.Core.Path.{refl}
use Rattle.octets.specs.PutLaws.{put_as}
use Rattle.definition.specs.Answer.{ActiveLimitExceeded}
use Rattle.answers.specs.AnswerLaws.{answer_as}
use Rattle.answers.proofs.put_limit.Goals as goal

pub returns : goal.returns
returns c =
    put_as (answer_as (ActiveLimitExceeded c.args.key.now c.args.n) refl refl) c.put_key.ensures
