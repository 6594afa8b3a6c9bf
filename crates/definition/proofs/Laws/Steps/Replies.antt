-- What the code of an operation promises, and the reply that the definition gives, agree; and 22 comes before either. For `station`.
use Rattle.std.specs.Prelude.{ℕ, ◌≡◌, refl, true, false}
use Rattle.std.proofs.Common.{sym, ◌∙◌}
use Rattle.octets.specs.Bytes.{Bytes}
use Rattle.octets.specs.SpliceLaws.{splice_none}
use Rattle.definition.specs.Station.{Station, Step}
use Rattle.definition.specs.Answer.{Answer}
use Rattle.definition.specs.Sound.{station, sound}
use Rattle.definition.proofs.Laws.Steps.SoundStation.{sound_holds}
use Rattle.definition.specs.Lists.{on_sound, reply_of}
use Rattle.definition.specs.Claim.{Gives}
use Rattle.definition.specs.Clauses.Does.{Answers, Refuses}

-- ---- "22 first"

pub on_sound_lem : {A : Type 0} (b : Bytes) (refusal : ℕ → A) (entry : Station → A) → sound b ≡ true → on_sound b refusal entry ≡ entry (station b)
on_sound_lem b refusal entry e = rw e

pub on_unsound : {A : Type 0} (b : Bytes) (refusal : ℕ → A) (entry : Station → A) → sound b ≡ false → on_sound b refusal entry ≡ refusal 22
on_unsound b refusal entry e = rw e

-- ---- operations

pub answers_give : (m : Step Answer) (b b' a a' : Bytes) (n : ℕ) → Answers m b b' a a' n → Gives (reply_of b (m (station b))) a 0 n a' b'
answers_give m b b' a a' n x =
    rw x.does.step (record {
      number_is = refl;
      length_is = x.size;
      answer_is = x.bytes;
      register_is = sym (sound_holds b' x.does.sound).bytes;
    })

pub refuses_give : (m : Step Answer) (b b' a a' : Bytes) (k : ℕ) → Refuses m b b' a a' k → Gives (reply_of b (m (station b))) a k 0 a' b'
refuses_give m b b' a a' k x =
    rw x.stops (record {
      number_is = refl;
      length_is = refl;
      answer_is = x.answer ∙ sym (splice_none a 0);
      register_is = x.register;
    })
