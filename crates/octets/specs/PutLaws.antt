-- Laws of what is put into a slice, one behind the other.
use Rattle.std.specs.Prelude.{◌≡◌, refl, ◌++◌, ℕ, length, take}
use Rattle.std.proofs.Common.{ap, subst, ◌∙◌, arith, length-append}
use Rattle.octets.specs.Bytes.{Bytes, splice}
use Rattle.octets.specs.SpliceLaws.{length_splice, splice_two, part_splice}
use Rattle.octets.specs.Put.{Put}

-- v behind u
pub put_two : {b c d u v : Bytes} {at m r : ℕ} → Put b at u m c → Put c m v r d → Put b at (u ++ v) r d
put_two {b} {c} {d} {u} {v} {at} {m} {r} p q =
    let l : length c ≡ length b = ap length p.bytes ∙ length_splice b at u (omega (arith, p.next, p.fits)) in
    record {
      next = omega (arith, p.next, q.next, length-append u v);
      fits = omega (arith, q.fits);
      bytes = q.bytes ∙ (λ i. splice (p.bytes i) (p.next i) v) ∙ splice_two b at (length u) u v refl (omega (arith, p.next, q.next, q.fits));
    }

-- the same bytes in other words
pub put_as : {b c u v : Bytes} {at r : ℕ} → u ≡ v → Put b at u r c → Put b at v r c
put_as {b} {c} {at = at} {r = r} e p = subst (λ (x : Bytes). Put b at x r c) e p

-- what stands at the beginning
pub put_front : {b c v : Bytes} {r : ℕ} → Put b 0 v r c → take r c ≡ v
put_front {b} {c} {v} {r} p =
    let e : r ≡ length v = omega (arith, p.next) in
    rw (e, p.bytes) (part_splice b 0 v (omega (arith, p.fits)))
