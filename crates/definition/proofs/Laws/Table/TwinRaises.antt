-- Two raises that are twins: text and details differ, and nothing else. They show that the claim's words on twins hold of some calls; nothing
-- cites them.
use Rattle.std.specs.Prelude.{refl, [], ◌∷◌, ◌++◌}
use Rattle.std.proofs.Math.Option.{Option, none, some}
use Rattle.octets.specs.Bytes.{Bytes, ascii}
use Rattle.definition.specs.Value.{ObjectValue, RaiseHeadValue, KeyValue, RaiseValue}
use Rattle.definition.specs.Twins.{before_text, TwinRaises}
use Rattle.definition.proofs.Laws.Table.Calls.{sent, absent, present, tenant, sent_before_text, raise}
use Rattle.definition.proofs.Laws.Table.Computed.{parsed}

abbrev fields : Bytes
fields = sent_before_text 0 "a" "lease-lost" (tenant "a") absent

abbrev head : RaiseHeadValue
head = record { time = 0; id = ascii "a"; type = ascii "t"; severity = 3 }

abbrev about : KeyValue
about = record { cause = ascii "lease-lost"; object = ObjectValue.tenant (ascii "a"); places = record { tenant = none; slice = none; region = none } }

abbrev raised : Bytes → Option Bytes → RaiseValue
raised t d = record { head = head; key = about; text = t; details = d }

-- no text and no details; text `x`, details ""
twin_raises : TwinRaises (raise 0 "a" "a") (1 ∷ (fields ++ (sent "x" ++ present "")))
unfolding parsed before_text
twin_raises =
    record {
      before = fields;
      texts = sent "" ++ absent;
      texts' = sent "x" ++ present "";
      after = [];
      is = refl;
      is' = refl;
      read = record { early = (head, about); raise = raised [] none; before_read = refl; texts_read = refl };
      read' = record { early = (head, about); raise = raised (ascii "x") (some []); before_read = refl; texts_read = refl };
    }
