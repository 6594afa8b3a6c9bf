-- "Lists": what a call gives from the register's bytes, its own and the answer slice's length; and what a list of calls gives.
use Rattle.std.specs.Prelude.{ℕ, List, [], ◌∷◌, cond, length}
use Rattle.octets.specs.Bytes.{Bytes}
use Rattle.definition.specs.Parse.{parse_call}
use Rattle.definition.specs.Station.{Station, Outcome, done, stopped}
use Rattle.definition.specs.Answer.{Answer, answer_bytes}
use Rattle.definition.specs.Perform.{perform}
use Rattle.definition.specs.Sound.{encode, station, sound}

-- "number, length, answer and its next register"
pub record Reply : Type 0 where
  pub number : ℕ
  pub length : ℕ
  pub answer : Bytes
  pub register : Bytes

-- "A refusal returns its number and length 0; register and answer are unchanged"
abbrev refused : ℕ → Bytes → Reply
refused n b = record { number = n; length = 0; answer = []; register = b }

-- "Every other call returns 0 and the answer's length"
abbrev pub reply_of : Bytes → Outcome Answer → Reply
reply_of b (done a s) = record { number = 0; length = length (answer_bytes a); answer = answer_bytes a; register = encode s }
reply_of b (stopped n) = refused n b

-- 22, "not sound", stands before all that is checked of a call: an entry is refused with it, or goes on from the station that the bytes hold
abbrev pub on_sound : {A : Type 0} → Bytes → (ℕ → A) → (Station → A) → A
on_sound b refusal entry = cond (sound b) (entry (station b)) (refusal 22)

-- "Places in table order; the first fault wins": 22, then what the call's bytes and the answer's length n give
unfoldable pub step_of : Bytes → Bytes → ℕ → Reply
step_of b call n = on_sound b (λ k. refused k b) (λ s. reply_of b (perform (parse_call call) n s))

-- "it takes each call's bytes and answer length in turn"
unfoldable pub run : List (Bytes × ℕ) → Bytes → List Reply
run [] b = []
run (p ∷ l) b =
    let r = step_of b p.0 p.1 in
    r ∷ run l r.register
