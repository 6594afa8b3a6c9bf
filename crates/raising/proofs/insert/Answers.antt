-- `insert`: an id that is active is refused; else the new alarm is stored.
use mathlib.Core.Path.{refl, sym, ◌∙◌}
use Rattle.history.specs.StandingLaws.{standing_newest}
use Rattle.raise_fields.specs.Meaning.{raise_value}
use Rattle.raising.specs.RaiseLaws.{id_taken, new_payload, stores_new}
use borrow.Author.Rules.{rules}
use Rattle.raising.proofs.insert.Goals as goal

pub returns-then-is_active : goal.returns-then-is_active
returns-then-is_active c =
    id_taken (raise_value c.args.call.now c.args.r) _ _ c.requires.0.standing.whole _ _ _ (sym c.is_active.ensures ∙ c.if-is_active.true) refl refl

pub store-requires : goal.store-requires
store-requires c =
    (standing_newest c.requires.0.standing, c.requires.1, (new_payload (raise_value c.args.call.now c.args.r) _ _ c.requires.0.standing.whole _ c.requires.0.legal (search rules) c.alarm_into.ensures).0)

pub returns : goal.returns
returns c =
    stores_new (raise_value c.args.call.now c.args.r) _ _ c.requires.0.standing.whole _ c.requires.0.legal (search rules) c.alarm_into.ensures _ _ _ _ (sym c.is_active.ensures ∙ c.if-is_active.false) c.store.ensures c.put_alarm.ensures
