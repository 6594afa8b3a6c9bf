-- Bytes put into a slice, one behind the other.
use Rattle.std.specs.Prelude.{◌≡◌, ℕ, ◌+◌, ◌≤◌, length}
use Rattle.octets.specs.Bytes.{Bytes, splice}

-- v was put into b from a place on: it fits, c is the slice then, and r the place behind v
pub record Put (b : Bytes) (at : ℕ) (v : Bytes) (r : ℕ) (c : Bytes) : Type 0 where
  pub next : r ≡ at + length v
  pub fits : r ≤ length b
  pub bytes : c ≡ splice b at v
