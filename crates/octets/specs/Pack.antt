-- Parts one after the other, as one list of bytes.
use Rattle.std.specs.Prelude.{cond, [], ◌++◌, ℕ, zero, suc, eqb}
use Rattle.octets.specs.Bytes.{Bytes}

-- f 0, f 1, .. f (n - 1), one after the other
unfoldable pub pack : ℕ → (ℕ → Bytes) → Bytes
pack zero f = []
pack (suc n) f = f 0 ++ pack n (λ j. f (suc j))

-- f, with v at i
unfoldable pub upd : (ℕ → Bytes) → ℕ → Bytes → ℕ → Bytes
upd f i v j = cond (eqb j i) v (f j)
