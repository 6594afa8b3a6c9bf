-- What is not a name is `other:` and a dotted name, or no cause.
use native.Mathlib.Omega.{arith}
use mathlib.Core.Bool.{Bool, true, false}
use Prim.Native.Nat.{ℕ, ◌+◌, ◌≤◌}
use lib.ListN.{length, drop, length-drop}
use Rattle.std.specs.Bool.{then_some}
use Rattle.octets.specs.Bytes.{Bytes}
use Rattle.octets.specs.PartLaws.{part_rest}
use Rattle.cause.specs.Meaning.{cause_fits}
use Rattle.cause.specs.declared.Cause.TheVariants.{Other}
use Rattle.cause.proofs.Ways.{not_other, other_is}
use Rattle.cause.proofs.other.Goals as goal

fits : (s : Bytes) (r : Bool) (at n : ℕ) → 6 ≤ at → at + n ≤ length s → cause_fits s (then_some r (Other at n))
fits s true at n h k = (h, k)
fits s false at n h k = tt

pub returns-in_err-name : goal.returns-in_err-name
returns-in_err-name c = rw c.from_residual.ensures (not_other _ c.requires c.in_err-name.ensures, tt)

pub returns : goal.returns
returns c =
    let t : Bytes = c.in_ok-name.name.now in
    let n : ℕ = c.trim_end-len.result in
    let p : n ≤ length (drop c.trim_start-start.result t) = rw part_rest at c.trim_end-len.ensures.0 in
    rw c.then_some.ensures (
      other_is _ c.requires c.in_ok-name.name.now c.trim_start-start.result c.trim_end-len.result
          c.in_ok-name.ensures.0 c.in_ok-name.ensures.1 c.trim_start-start.ensures.1 c.trim_end-len.ensures.1
          c.is_dotted.result c.is_dotted.ensures,
      fits _ c.is_dotted.result _ n (omega arith) (omega (arith, p, length-drop c.trim_start-start.result t, c.in_ok-name.ensures.2, c.trim_start-start.ensures.0)),
    )
