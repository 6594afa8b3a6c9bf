-- A call on a register: 22 first, then what the code of the call says. For `step`.
use Rattle.std.specs.Prelude.{ℕ, ◌≡◌, refl, false, T, length, Result, Ok, Err}
use Rattle.std.proofs.Common.{sym, subst}
use Rattle.octets.specs.Bytes.{Bytes}
use Rattle.octets.specs.BoolLaws.{holds}
use Rattle.octets.specs.SpliceLaws.{splice_none}
use Rattle.definition.specs.Value.{CallValue}
use Rattle.definition.specs.Parse.{parse_call}
use Rattle.definition.specs.Perform.{perform}
use Rattle.definition.specs.Sound.{sound}
use Rattle.definition.specs.Lists.{step_of}
use Rattle.definition.specs.Claim.{StepReturns}
use Rattle.definition.specs.Clauses.Does.{Refuses}
use Rattle.model.specs.declared.refusal.Refusal.{Refusal}
use Rattle.operations.specs.RoomLaws.{stays_refused}
use Rattle.model.specs.Refusal.{refusal_number, number_in}
use Rattle.reply.specs.Meaning.{Reply, RepliesBy, Replies, length_in, number_told, length_told}
use Rattle.reply.specs.ReplyLaws.{replies_by_give}

-- a sound register, whatever number the call is refused with
pub stepped_by :
    (y : Result ℕ ℕ) (b call a a' b' : Bytes) → T (sound b) → RepliesBy y (perform (parse_call call) (length a)) b b' a a' → StepReturns b call a (number_told y) (length_told y) a' b'
unfolding step_of
stepped_by y b call a a' b' h w = rw (holds (sound b) h) (replies_by_give y (perform (parse_call call) (length a)) b b' a a' w)

pub stepped : (y : Reply) (b call a a' b' : Bytes) → T (sound b) → Replies y (perform (parse_call call) (length a)) b b' a a' → StepReturns b call a (number_in y) (length_in y) a' b'
stepped (Ok n) = stepped_by (Ok n)
stepped (Err e) = stepped_by (Err (refusal_number e))

-- a sound register, and a call that is refused as it is read
pub not_read : (e : Refusal) (b call a : Bytes) → T (sound b) → CallValue.refused (refusal_number e) ≡ parse_call call → StepReturns b call a (refusal_number e) 0 a b
not_read e b call a h w =
    stepped (Err e) b call a a b h (subst (λ (v : CallValue). Refuses (perform v (length a)) b b a a (refusal_number e)) w (stays_refused (refusal_number e) (length a) b a))

-- 22: "not sound"
pub unsound : (b call a : Bytes) → sound b ≡ false → StepReturns b call a 22 0 a b
unfolding step_of
unsound b call a e = rw e (record { number_is = refl; length_is = refl; answer_is = sym (splice_none a 0); register_is = refl })
