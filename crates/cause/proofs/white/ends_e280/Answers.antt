-- White space after E2 80, by a computed test for each range.
use mathlib.Core.Path.{sym}
use mathlib.Core.List.{[], ◌∷◌}
use Prim.Native.Nat.{ℕ}
use native.Mathlib.Omega.{arith}
use Rattle.octets.specs.Bytes.{begins}
use Rattle.octets.specs.RangeLaws.{eq_on}
use Rattle.definition.specs.White.{space, front_of}
use Rattle.cause.proofs.Spaces.{none_e280}
use Rattle.cause.proofs.white.ends_e280.Goals as goal

pub returns-in-128-to-138 : goal.returns-in-128-to-138
unfolding space front_of begins
returns-in-128-to-138 c = sym (eq_on (λ (x : ℕ). space (0xE2 ∷ 0x80 ∷ x ∷ [])) 3 1 175 tt c.args.c (omega arith) (omega arith))

pub returns-in-128-to-138-2 : goal.returns-in-128-to-138-2
unfolding space front_of begins
returns-in-128-to-138-2 c = sym (eq_on (λ (x : ℕ). space (0xE2 ∷ 0x80 ∷ x ∷ [])) 3 11 128 tt c.args.c (omega arith) (omega arith))

pub returns-in-128-to-138-3 : goal.returns-in-128-to-138-3
unfolding space front_of begins
returns-in-128-to-138-3 c = sym (eq_on (λ (x : ℕ). space (0xE2 ∷ 0x80 ∷ x ∷ [])) 3 2 168 tt c.args.c (omega arith) (omega arith))

pub returns-in_default : goal.returns-in_default
unfolding space front_of begins
returns-in_default c = sym (eq_on (λ (x : ℕ). space (0xE2 ∷ 0x80 ∷ x ∷ [])) 0 128 0 tt c.args.c (omega arith) (omega arith))

pub returns-in_default-2 : goal.returns-in_default-2
unfolding space front_of begins
returns-in_default-2 c = sym (eq_on (λ (x : ℕ). space (0xE2 ∷ 0x80 ∷ x ∷ [])) 0 29 139 tt c.args.c (omega arith) (omega arith))

pub returns-in_default-3 : goal.returns-in_default-3
returns-in_default-3 c = none_e280 c.args.c (omega arith) (omega arith) (omega arith)
