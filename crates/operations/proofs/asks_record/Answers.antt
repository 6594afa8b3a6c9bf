-- `asks_record`: the operation's number, case by case.
use mathlib.Core.Path.{sym}
use Rattle.model.specs.Meaning.{action_of, deed_of}
use Rattle.action_fields.specs.Meaning.{plain_value, policy_value}
use Rattle.operations.specs.RoomLaws.{plain_asks, policy_asks}
use Rattle.operations.proofs.asks_record.Goals as goal

pub returns-in-Plain : goal.returns-in-Plain
returns-in-Plain c call =
    rw c.in-Plain.is (sym (plain_asks (action_of c.in-Plain.field-0) (plain_value call c.in-Plain.field-1)))

pub returns-in-Policy : goal.returns-in-Policy
returns-in-Policy c call =
    rw c.in-Policy.is (sym (policy_asks (deed_of c.in-Policy.field-0) (policy_value call c.in-Policy.field-1)))
