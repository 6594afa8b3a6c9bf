-- What the code of a step promises on bytes: the words of the contracts of moves and operations.
use Rattle.std.specs.Prelude.{ℕ, ◌≡◌, T, length}
use Rattle.octets.specs.Bytes.{Bytes, splice}
use Rattle.definition.specs.Station.{Step, done, stopped}
use Rattle.definition.specs.Answer.{Answer, answer_bytes}
use Rattle.definition.specs.Sound.{station, sound}

-- the register was b and is b': from the station in b the step m is done with the value v and leaves the station in b', and b' is sound
pub record Does {A : Type 0} (m : Step A) (b b' : Bytes) (v : A) : Type 0 where
  pub step : m (station b) ≡ done v (station b')
  pub sound : T (sound b')

-- the step m is done, and its answer stands at the front of the answer slice, which was a and is a'; n is its length
pub record Answers (m : Step Answer) (b b' a a' : Bytes) (n : ℕ) : Type 0 where
  pub value : Answer
  pub does : Does m b b' value
  pub size : n ≡ length (answer_bytes value)
  pub bytes : a' ≡ splice a 0 (answer_bytes value)

-- the step m is refused with the number k, and nothing changes
pub record Refuses (m : Step Answer) (b b' a a' : Bytes) (k : ℕ) : Type 0 where
  pub stops : m (station b) ≡ stopped k
  pub register : b' ≡ b
  pub answer : a' ≡ a
