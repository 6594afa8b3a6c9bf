-- A raise and a clear are their steps, given the first match of their key on the active chain.
use Rattle.std.specs.Prelude.{ℕ, ◌≡◌, Result}
use Rattle.std.proofs.Math.Option.{Option}
use Rattle.octets.specs.Bytes.{Bytes}
use Rattle.definition.specs.Value.{RaiseValue, ClearValue}
use Rattle.definition.specs.Key.{key_of}
use Rattle.definition.specs.Chain.{Entry, first}
use Rattle.definition.specs.Alarm.{Alarm, has_key}
use Rattle.definition.specs.Station.{◌>>=◌}
use Rattle.definition.specs.Steps.{raise_at, raise, clear_at, clear}
use Rattle.definition.specs.Sound.{station}
use Rattle.reply.specs.Meaning.{RepliesBy}
use Rattle.reply.specs.ReplyLaws.{replies_at}

-- k is the call's key
module _ (y : Result ℕ ℕ) (k b b' a a' : Bytes) where
  abbrev found : Option (Entry Alarm)
  found = first (has_key k) (station b).active

  pub raise_sought : (c : RaiseValue) → k ≡ key_of c.head.type c.key → RepliesBy y (raise_at c k found) b b' a a' → RepliesBy y (raise c) b b' a a'
  unfolding raise ◌>>=◌
  raise_sought c e w = replies_at y (raise_at c k found) (raise c) b b' a a' (rw (← e)) w

  pub clear_sought : (c : ClearValue) → k ≡ key_of c.type c.key → RepliesBy y (clear_at c k found) b b' a a' → RepliesBy y (clear c) b b' a a'
  unfolding clear ◌>>=◌
  clear_sought c e w = replies_at y (clear_at c k found) (clear c) b b' a a' (rw (← e)) w
