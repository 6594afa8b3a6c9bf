-- Opening: its number, and the register that it leaves.
use Rattle.std.specs.Prelude.{ℕ, ◌+◌, ◌*◌, cond, ◌&&◌, eqb, length}
use Rattle.octets.specs.Bytes.{Bytes}
use Rattle.definition.specs.Limits.{record_width}
use Rattle.definition.specs.Book.{is_limit}
use Rattle.definition.specs.Station.{fresh}
use Rattle.definition.specs.Sound.{encode}

pub record Opened : Type 0 where
  pub number : ℕ
  pub register : Bytes

abbrev pub opened : ℕ → Bytes → Opened
opened n b = record { number = n; register = b }

-- 20 "a limit is 0 or above 65,535", 21 "the slice is not 1,536 × (1+A+H+E)"; "the first fault wins"; "a refusal returns its number ..;
-- register and answer are unchanged"; "every other call returns 0"
unfoldable pub open_of : ℕ → ℕ → ℕ → Bytes → Opened
open_of a h e b =
    cond (is_limit a && (is_limit h && is_limit e))
    (cond (eqb (length b) (record_width * (1 + (a + h + e)))) (opened 0 (encode (fresh a h e))) (opened 21 b))
    (opened 20 b)
