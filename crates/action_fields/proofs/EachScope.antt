-- What each kind of scope says.
use Rattle.std.specs.Prelude.{ℕ, ◌≡◌, ◌≢◌}
use borrow.Author.Tests.{ne_eqb}
use Rattle.octets.specs.Bytes.{Bytes}
use Rattle.definition.specs.Limits.{short_limit}
use Rattle.definition.specs.Reader.{got, into, text}
use Rattle.definition.specs.Value.{ScopeValue}
use Rattle.definition.specs.Parse.{scope_of}
use Rattle.fields.specs.ReadingLaws.{row_is}

module _ (k : ℕ) (s : Bytes) where
  pub is_alarm : k ≡ 0 → scope_of k s ≡ into ScopeValue.alarm_scope (text short_limit) s
  unfolding scope_of
  is_alarm h = rw h

  pub is_tenant : k ≡ 1 → scope_of k s ≡ into ScopeValue.tenant_scope (text short_limit) s
  unfolding scope_of
  is_tenant h = rw h

  pub is_global : k ≢ 0 → k ≢ 1 → scope_of k s ≡ got ScopeValue.global_scope s
  unfolding scope_of
  is_global a b = rw (ne_eqb k 0 a, ne_eqb k 1 b)

pub ruleset scopes = (row_is, is_alarm, is_tenant, is_global)
