-- Laws of replies: steps that do the same, the definition's reply, and 30 for an answer that the slice is too short for.
use Rattle.std.specs.Prelude.{ℕ, ◌≤◌, ◌<◌, ◌≡◌, Result, Ok, Err}
use Rattle.std.proofs.Math.Path.{refl}
use Rattle.std.proofs.Common.{◌∙◌, arith}
use borrow.Author.Tests.{lt-ltb, le-ltb}
use Rattle.std.proofs.Math.ListN.{length}
use Rattle.octets.specs.Bytes.{Bytes}
use Rattle.octets.specs.Put.{Put}
use Rattle.definition.specs.Station.{Station, done, Step, ◌>>=◌}
use Rattle.definition.specs.Answer.{Answer, answer_bytes}
use Rattle.definition.specs.Perform.{in_length}
use Rattle.definition.specs.Sound.{station}
use Rattle.definition.specs.Lists.{reply_of}
use Rattle.definition.specs.Claim.{Gives}
use Rattle.definition.proofs.Laws.Steps.Replies.{answers_give, refuses_give}
use Rattle.definition.specs.Clauses.Does.{Does, Answers, Refuses}
use Rattle.model.specs.Refusal.{refusal_number, number_in}
use Rattle.reply.specs.Meaning.{Reply, RepliesBy, Replies, length_in, number_told, length_told}

-- a step that does the same on this register, whatever number it is refused with
pub replies_at : (y : Result ℕ ℕ) (m m' : Step Answer) (b b' a a' : Bytes) → m' (station b) ≡ m (station b) → RepliesBy y m b b' a a' → RepliesBy y m' b b' a a'
replies_at (Ok n) m m' b b' a a' e w =
    record { value = w.value; does = record { step = e ∙ w.does.step; sound = w.does.sound }; size = w.size; bytes = w.bytes }
replies_at (Err k) m m' b b' a a' e w = record { stops = e ∙ w.stops; register = w.register; answer = w.answer }

-- what a host is told, and what the slices hold then, is the definition's reply
pub replies_by_give :
    (y : Result ℕ ℕ) (m : Step Answer) (b b' a a' : Bytes) → RepliesBy y m b b' a a' → Gives (reply_of b (m (station b))) a (number_told y) (length_told y) a' b'
replies_by_give (Ok n) m b b' a a' w = answers_give m b b' a a' n w
replies_by_give (Err k) m b b' a a' w = refuses_give m b b' a a' k w

pub replies_give : (y : Reply) (m : Step Answer) (b b' a a' : Bytes) → Replies y m b b' a a' → Gives (reply_of b (m (station b))) a (number_in y) (length_in y) a' b'
replies_give (Ok n) = replies_by_give (Ok n)
replies_give (Err e) = replies_by_give (Err (refusal_number e))

-- ---- answers of any length: one that fits the slice is given, one that does not is refused

module _ (m : Step Answer) (b a : Bytes) (x : Answer) where
  pub answered : (b' a' : Bytes) (r : ℕ) → Does m b b' x → Put a 0 (answer_bytes x) r a' → Answers (in_length (length a) m) b b' a a' r
  unfolding in_length ◌>>=◌
  answered b' a' r d p =
      let l : length (answer_bytes x) ≤ length a = omega (arith, p.next, p.fits) in
      record { value = x; does = record { step = rw (d.step, le-ltb _ _ l); sound = d.sound }; size = omega (arith, p.next); bytes = p.bytes }

  pub refused : (s : Station) → m (station b) ≡ done x s → length a < length (answer_bytes x) → Refuses (in_length (length a) m) b b a a 30
  unfolding in_length ◌>>=◌
  refused s d h = record { stops = rw (d, lt-ltb _ _ h); register = refl; answer = refl }
