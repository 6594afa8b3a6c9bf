-- An answer's parts, one behind the other: each line of code cites `part`.
use mathlib.Core.Path.{◌≡◌, refl}
use mathlib.Core.List.{◌++◌}
use Prim.Native.Nat.{ℕ, ◌+◌, ◌≤◌}
use native.Mathlib.Omega.{arith}
use lib.ListN.{length}
use Rattle.octets.specs.Bytes.{Bytes, splice}
use Rattle.octets.specs.Put.{Put}
use Rattle.octets.specs.PutLaws.{put_two}

-- what was put, its length, the place behind it, and that it fits
pub part_to : {b c v : Bytes} {at w r : ℕ} → c ≡ splice b at v → length v ≡ w → r ≡ at + w → r ≤ length b → Put b at v r c
part_to e l n h = record { next = omega arith; fits = h; bytes = e }

-- the same where both places are numbers
pub part : {b c v : Bytes} {at w : ℕ} → c ≡ splice b at v → length v ≡ w → at + w ≤ length b → Put b at v (at + w) c
part e l h = part_to e l refl h

infixr 20 ◌then◌
pub ◌then◌ : {b c d u v : Bytes} {at m r : ℕ} → Put b at u m c → Put c m v r d → Put b at (u ++ v) r d
◌then◌ p q = put_two p q
