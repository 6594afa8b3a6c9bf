-- `dispatch`: each arm is its operation.
use mathlib.Core.Path.{◌≡◌, refl, subst}
use mathlib.Core.Bool.{true}
use Prim.Native.Nat.{ℕ, ◌≤◌}
use lib.ListN.{length}
use Rattle.octets.specs.Bytes.{Bytes}
use Rattle.definition.specs.Value.{op_of}
use Rattle.definition.specs.Perform.{asks_record}
use Rattle.model.specs.Meaning.{action_of, deed_of}
use Rattle.action_fields.specs.Meaning.{plain_value, policy_value}
use Rattle.call.specs.declared.Parsed.{Parsed}
use Rattle.call.specs.Meaning.{meaning}
use Rattle.history.specs.StandingLaws.{standing_newest}
use Rattle.reply.specs.Meaning.{Reply}
use Rattle.std.specs.Prelude.{Ok}
use Rattle.reply.specs.Meaning.{Replies}
use Rattle.operations.specs.Meaning.{Called, HasRoom, with_room}
use Rattle.register.specs.declared.Ends.{Ends}
use Rattle.operations.specs.RoomLaws.{plain_asks, policy_asks, plain_steps, policy_steps}
use Rattle.operations.proofs.dispatch.Goals as goal

-- what is asked, as the arm has the call
called : (b : Bytes) (ends : Ends) (call : Bytes) {p q : Parsed} → p ≡ q → Called b ends call (Ok p) → Called b ends call (Ok q)
called b ends call e k = subst (λ (x : Parsed). Called b ends call (Ok x)) e k

room : (call : Bytes) (n : ℕ) {p q : Parsed} → p ≡ q → HasRoom (meaning call p) n → asks_record (op_of (meaning call q)) ≡ true → 1552 ≤ n
room call n e h a = h (rw e a)

-- and what the arm answers, as the function has it
arm :
    (call b a : Bytes) {p q : Parsed} → p ≡ q → (y : Reply) (b' a' : Bytes) → Replies y (with_room (meaning call q) (length a)) b b' a a' →
    Replies y (with_room (meaning call p) (length a)) b b' a a'
arm call b a e y b' a' w = rw e w

pub raise-requires : goal.raise-requires
raise-requires c =
    let k = called c.args.register.now c.args.ends c.args.call.now c.in-Raise.is c.requires.called in
    record { standing = k.standing; parts = k.within; legal = k.legal; room = room c.args.call.now _ c.in-Raise.is c.requires.has_room refl }

pub clear-requires : goal.clear-requires
clear-requires c =
    let k = called c.args.register.now c.args.ends c.args.call.now c.in-Clear.is c.requires.called in
    record { newest = standing_newest k.standing; parts = k.within; room = room c.args.call.now _ c.in-Clear.is c.requires.has_room refl }

pub plain-requires : goal.plain-requires
plain-requires c =
    let k = called c.args.register.now c.args.ends c.args.call.now c.in-Plain.is c.requires.called in
    (standing_newest k.standing, k.within, room c.args.call.now _ c.in-Plain.is c.requires.has_room (plain_asks (action_of c.in-Plain.action) (plain_value c.args.call.now c.in-Plain.p)))

pub apply_admin_action-requires : goal.apply_admin_action-requires
apply_admin_action-requires c =
    let k = called c.args.register.now c.args.ends c.args.call.now c.in-Policy.is c.requires.called in
    record { standing = k.standing; sent = record { within = k.within; legal = k.legal.0 }; timed = k.legal.1; room = room c.args.call.now _ c.in-Policy.is c.requires.has_room (policy_asks (deed_of c.in-Policy.deed) (policy_value c.args.call.now c.in-Policy.p)) }

pub expire-requires : goal.expire-requires
expire-requires c =
    let k = called c.args.register.now c.args.ends c.args.call.now c.in-Expire.is c.requires.called in
    (standing_newest k.standing, room c.args.call.now _ c.in-Expire.is c.requires.has_room refl)

pub lift-requires : goal.lift-requires
lift-requires c =
    let k = called c.args.register.now c.args.ends c.args.call.now c.in-Lift.is c.requires.called in
    (standing_newest k.standing, room c.args.call.now _ c.in-Lift.is c.requires.has_room refl)

pub history_list-requires : goal.history_list-requires
history_list-requires c =
    let k = called c.args.register.now c.args.ends c.args.call.now c.in-History.is c.requires.called in
    (k.standing.whole, k.within.0, k.within.1)

pub summary-requires : goal.summary-requires
summary-requires c =
    let k = called c.args.register.now c.args.ends c.args.call.now c.in-Summary.is c.requires.called in
    (k.standing.whole, room c.args.call.now _ c.in-Summary.is c.requires.has_room refl)

pub returns-in-Raise : goal.returns-in-Raise
returns-in-Raise c =
    arm c.args.call.now c.args.register.now c.args.answer.now c.in-Raise.is c.raise.result _ _ c.raise.ensures

pub returns-in-Clear : goal.returns-in-Clear
returns-in-Clear c =
    arm c.args.call.now c.args.register.now c.args.answer.now c.in-Clear.is (Ok c.clear.result) _ _ c.clear.ensures

pub returns-in-Plain : goal.returns-in-Plain
returns-in-Plain c =
    arm c.args.call.now c.args.register.now c.args.answer.now c.in-Plain.is (Ok c.plain.result) _ _ (plain_steps _ (Ok c.plain.result) _ _ _ _ (action_of c.in-Plain.action) (plain_value c.args.call.now c.in-Plain.p) c.plain.ensures)

pub returns-in-Policy : goal.returns-in-Policy
returns-in-Policy c =
    arm c.args.call.now c.args.register.now c.args.answer.now c.in-Policy.is (Ok c.apply_admin_action.result) _ _ (policy_steps _ (Ok c.apply_admin_action.result) _ _ _ _ (deed_of c.in-Policy.deed) (policy_value c.args.call.now c.in-Policy.p) c.apply_admin_action.ensures)

pub returns-in-Expire : goal.returns-in-Expire
returns-in-Expire c =
    arm c.args.call.now c.args.register.now c.args.answer.now c.in-Expire.is (Ok c.expire.result) _ _ c.expire.ensures

pub returns-in-Active : goal.returns-in-Active
returns-in-Active c =
    arm c.args.call.now c.args.register.now c.args.answer.now c.in-Active.is c.active_list.result _ _ c.active_list.ensures

pub returns-in-History : goal.returns-in-History
returns-in-History c =
    arm c.args.call.now c.args.register.now c.args.answer.now c.in-History.is c.history_list.result _ _ c.history_list.ensures

pub returns-in-Counts : goal.returns-in-Counts
returns-in-Counts c =
    arm c.args.call.now c.args.register.now c.args.answer.now c.in-Counts.is c.counts.result _ _ c.counts.ensures

pub returns-in-Summary : goal.returns-in-Summary
returns-in-Summary c =
    arm c.args.call.now c.args.register.now c.args.answer.now c.in-Summary.is (Ok c.summary.result) _ _ c.summary.ensures

pub returns-in-TakeAudit : goal.returns-in-TakeAudit
returns-in-TakeAudit c =
    arm c.args.call.now c.args.register.now c.args.answer.now c.in-TakeAudit.is c.take_audit.result _ _ c.take_audit.ensures

pub returns-in-Lift : goal.returns-in-Lift
returns-in-Lift c =
    arm c.args.call.now c.args.register.now c.args.answer.now c.in-Lift.is (Ok c.lift.result) _ _ c.lift.ensures
