-- The fields of each operation.
use Rattle.std.specs.Prelude.{ℕ, ◌≡◌, ◌≢◌}
use borrow.Author.Tests.{ne_eqb}
use Rattle.octets.specs.Bytes.{Bytes}
use Rattle.definition.specs.Reader.{got, bad, into, number}
use Rattle.definition.specs.Value.{CallValue, acknowledging, suppressing, untimed}
use Rattle.definition.specs.Parse.{raise_fields, clear_fields, plain_fields, policy_fields, severity_or_all, history_fields, until_fields, fields_of}
use Rattle.fields.specs.ReadingLaws.{row_is}

module _ (k : ℕ) (s : Bytes) where
  pub is_raise : k ≡ 1 → fields_of k s ≡ into CallValue.raise raise_fields s
  unfolding fields_of
  is_raise h = rw h

  pub is_clear : k ≡ 2 → fields_of k s ≡ into CallValue.clear clear_fields s
  unfolding fields_of
  is_clear h = rw h

  pub is_acknowledge : k ≡ 3 → fields_of k s ≡ into (CallValue.plain acknowledging) plain_fields s
  unfolding fields_of
  is_acknowledge h = rw h

  pub is_suppress : k ≡ 4 → fields_of k s ≡ into (CallValue.plain suppressing) plain_fields s
  unfolding fields_of
  is_suppress h = rw h

  pub is_acknowledge_policy : k ≡ 5 → fields_of k s ≡ into (CallValue.policy (untimed acknowledging)) policy_fields s
  unfolding fields_of
  is_acknowledge_policy h = rw h

  pub is_suppress_policy : k ≡ 6 → fields_of k s ≡ into (CallValue.policy (untimed suppressing)) policy_fields s
  unfolding fields_of
  is_suppress_policy h = rw h

  pub is_expire : k ≡ 7 → fields_of k s ≡ into CallValue.expire (number 8) s
  unfolding fields_of
  is_expire h = rw h

  pub is_active : k ≡ 8 → fields_of k s ≡ into CallValue.active severity_or_all s
  unfolding fields_of
  is_active h = rw h

  pub is_history : k ≡ 9 → fields_of k s ≡ history_fields s
  unfolding fields_of
  is_history h = rw h

  pub is_counts : k ≡ 10 → fields_of k s ≡ got CallValue.counts s
  unfolding fields_of
  is_counts h = rw h

  pub is_summary : k ≡ 11 → fields_of k s ≡ got CallValue.summary s
  unfolding fields_of
  is_summary h = rw h

  pub is_take_audit : k ≡ 12 → fields_of k s ≡ into CallValue.take_audit (number 2) s
  unfolding fields_of
  is_take_audit h = rw h

  pub is_until : k ≡ 13 → fields_of k s ≡ until_fields s
  unfolding fields_of
  is_until h = rw h

  pub is_lift : k ≡ 14 → fields_of k s ≡ into CallValue.lift (number 8) s
  unfolding fields_of
  is_lift h = rw h

  pub is_none : k ≢ 1 → k ≢ 2 → k ≢ 3 → k ≢ 4 → k ≢ 5 → k ≢ 6 → k ≢ 7 → k ≢ 8 → k ≢ 9 → k ≢ 10 → k ≢ 11 → k ≢ 12 → k ≢ 13 → k ≢ 14 → fields_of k s ≡ bad 23
  unfolding fields_of
  is_none a b c d e f g h i j l m n o = rw (ne_eqb k 1 a, ne_eqb k 2 b, ne_eqb k 3 c, ne_eqb k 4 d, ne_eqb k 5 e, ne_eqb k 6 f, ne_eqb k 7 g, ne_eqb k 8 h, ne_eqb k 9 i, ne_eqb k 10 j, ne_eqb k 11 l, ne_eqb k 12 m, ne_eqb k 13 n, ne_eqb k 14 o)

pub ruleset operations = (row_is, is_raise, is_clear, is_acknowledge, is_suppress, is_acknowledge_policy, is_suppress_policy, is_expire, is_active, is_history, is_counts, is_summary, is_take_audit, is_until, is_lift, is_none)
