-- White space by its first byte.
use mathlib.Core.List.{[], ◌∷◌}
use Prim.Native.Nat.{ℕ}
use native.Mathlib.Omega.{arith}
use Rattle.octets.specs.Bytes.{begins}
use Rattle.octets.specs.RangeLaws.{eq_on}
use Rattle.definition.specs.White.{space, front_of}
use Rattle.cause.proofs.Spaces.{some_at, none_at, none_behind}
use Rattle.cause.proofs.white.space_of.Goals as goal

pub returns-in_default : goal.returns-in_default
unfolding space front_of begins
returns-in_default c = none_at (eq_on (λ (x : ℕ). space (x ∷ c.args.b ∷ c.args.c ∷ [])) 0 9 0 tt c.args.a (omega arith) (omega arith))

pub returns-in_default-2 : goal.returns-in_default-2
returns-in_default-2 c = none_at (none_behind c.args.a c.args.b c.args.c (omega arith) (omega arith) (omega arith) (omega arith) (omega arith) (omega arith) (omega arith))

pub returns-in-9-to-13 : goal.returns-in-9-to-13
unfolding space front_of begins
returns-in-9-to-13 c = some_at (omega arith) (eq_on (λ (x : ℕ). space (x ∷ c.args.b ∷ c.args.c ∷ [])) 1 1 32 tt c.args.a (omega arith) (omega arith))

pub returns-in-9-to-13-2 : goal.returns-in-9-to-13-2
unfolding space front_of begins
returns-in-9-to-13-2 c = some_at (omega arith) (eq_on (λ (x : ℕ). space (x ∷ c.args.b ∷ c.args.c ∷ [])) 1 5 9 tt c.args.a (omega arith) (omega arith))
