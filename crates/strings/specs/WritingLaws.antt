-- Laws of what a writer put, one thing behind the other.
use Rattle.std.specs.Prelude.{◌≡◌, refl, ◌++◌, ℕ, ◌+◌, length, take}
use Rattle.std.proofs.Common.{ap, subst, ◌∙◌, arith}
use Rattle.octets.specs.Bytes.{Bytes, splice}
use Rattle.octets.specs.SpliceLaws.{length_splice}
use Rattle.octets.specs.Put.{Put}
use Rattle.octets.specs.PutLaws.{put_two, put_front}
use Rattle.strings.specs.declared.Writer.{Writer}
use Rattle.strings.specs.Writing.{Room, Wrote}

-- v behind u
infixr 20 ◌then◌
pub ◌then◌ : {w x y : Writer} {u v : Bytes} → Wrote w u x → Wrote x v y → Wrote w (u ++ v) y
◌then◌ p q = record { same_slice = q.same_slice ∙ p.same_slice; put = put_two p.put q.put }

-- the same bytes in other words
pub wrote_as : {w x : Writer} {u v : Bytes} → u ≡ v → Wrote w u x → Wrote w v x
wrote_as {w} {x} e p = subst (λ (s : Bytes). Wrote w s x) e p

-- the slice is as long as before
pub same_length : {w x : Writer} {v : Bytes} → Wrote w v x → length x.slice.now ≡ length w.slice.now
same_length {w} {v = v} p = ap length p.put.bytes ∙ length_splice w.slice.now w.at v (omega (arith, p.put.next, p.put.fits))

-- room for n bytes behind v
pub room_behind : (n : ℕ) {w x : Writer} {v : Bytes} → Room w (length v + n) → Wrote w v x → Room x n
room_behind n r p = omega (arith, r, p.put.next, same_length p)

-- what a writer put behind the place where it started, into the slice that it was made of
pub put_from :
    {b c v : Bytes} {at r : ℕ} {w x : Writer} → w.slice.now ≡ b → w.at ≡ at → Wrote w v x → r ≡ x.at → c ≡ x.slice.now → Put b at v r c
put_from {v = v} e h p q f =
    record {
      next = omega (arith, p.put.next);
      fits = omega (arith, p.put.fits, ap length e);
      bytes = f ∙ p.put.bytes ∙ (λ i. splice (e i) (h i) v);
    }

-- a writer stands in its slice
pub in_slice : {w x : Writer} {v : Bytes} → Wrote w v x → Room x 0
in_slice p = omega (arith, p.put.fits, same_length p)

-- what a writer put from the beginning on
pub written_is : {v : Bytes} {w x : Writer} → w.at ≡ 0 → Wrote w v x → take x.at x.slice.now ≡ v
written_is h p = put_front (put_from refl h p refl refl)
