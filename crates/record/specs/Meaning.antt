-- What stands in a string's slot of a payload.
use Rattle.std.proofs.Math.Option.{Option}
use Rattle.std.specs.Prelude.{ℕ, ◌+◌, take, drop}
use Rattle.octets.specs.Bytes.{Bytes}
use Rattle.definition.specs.Slot.{string, option}
use Rattle.definition.specs.Record.{any_bytes}

-- the string in the slot at a place of p, which has room for n bytes
abbrev pub string_at : ℕ → Bytes → ℕ → Bytes
string_at n p at = (string n any_bytes).get (take (2 + n) (drop at p))

-- the same for a string that may be absent
abbrev pub option_at : ℕ → Bytes → ℕ → Option Bytes
option_at n p at = (option (string n any_bytes)).get (take (3 + n) (drop at p))
