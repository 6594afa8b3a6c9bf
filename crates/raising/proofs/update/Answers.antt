-- `update`: the payload is taken out, changed by the raise and put back.
use Rattle.history.specs.StandingLaws.{standing_newest}
use Rattle.raise_fields.specs.Meaning.{raise_value}
use Rattle.raising.specs.RaiseLaws.{updated_payload, updates}
use Rattle.raising.proofs.update.Goals as goal

pub load-p-requires : goal.load-p-requires
load-p-requires c = (c.requires.0.standing.whole, c.requires.1)

pub updated_by-requires : goal.updated_by-requires
updated_by-requires c = (
  c.load-p.ensures.1,
  record { text = c.requires.0.parts.text; details = c.requires.0.parts.details },
)

pub revise-requires : goal.revise-requires
revise-requires c = (
  standing_newest c.requires.0.standing,
  c.requires.1,
  (updated_payload (raise_value c.args.call.now c.args.r) _ _ _ _ c.requires.0.standing.whole c.requires.1 c.requires.0.legal c.load-p.ensures.0 c.updated_by.ensures).0,
)

pub returns : goal.returns
returns c =
    updates (raise_value c.args.call.now c.args.r) _ _ _ _ c.requires.0.standing.whole c.requires.1 c.requires.0.legal c.load-p.ensures.0 c.updated_by.ensures
    _ _ _ _ _ c.revise.ensures c.put_alarm.ensures
