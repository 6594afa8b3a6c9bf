-- What a writer's methods ask for and promise.
use Rattle.std.specs.Prelude.{◌≡◌, ℕ, ◌+◌, ◌≤◌, length}
use Rattle.octets.specs.Bytes.{Bytes}
use Rattle.octets.specs.Put.{Put}
use Rattle.strings.specs.declared.Writer.{Writer}

-- n more bytes have room in the slice
abbrev pub Room : Writer → ℕ → Type 0
Room w n = w.at + n ≤ length w.slice.now

-- v was put where w stood, into the same slice, and x stands behind it
pub record Wrote (w : Writer) (v : Bytes) (x : Writer) : Type 0 where
  pub same_slice : x.slice.ghost_name ≡ w.slice.ghost_name
  pub put : Put w.slice.now w.at v x.at x.slice.now
