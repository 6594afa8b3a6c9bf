-- 30, "shorter than 1,552 (ops 1 to 7, 11)", and M-105's 13 and 14, as one test before the step; and the dispatch's arms in the words of the definition.
use Rattle.std.specs.Prelude.{ℕ, ◌≤◌, ◌<◌, ◌≡◌, Bool, cond, ◌&&◌, ltb, Result}
use Rattle.std.proofs.Math.Path.{refl}
use Rattle.std.proofs.Common.{ap, arith}
use Rattle.std.proofs.Math.Bool.{true, false}
use borrow.Author.Tests.{lt-ltb, le-ltb, ltb-true, ltb-false}
use Rattle.octets.specs.Bytes.{Bytes}
use Rattle.definition.specs.Value.{PlainValue, PolicyValue, CallValue, Action, acknowledging, suppressing, Deed, untimed, until, op_of}
use Rattle.definition.specs.Station.{Step, ◌>>=◌}
use Rattle.definition.specs.Answer.{Answer}
use Rattle.definition.specs.Steps.{plain, policy}
use Rattle.definition.specs.Perform.{step_for, in_record, in_length, asks_record, perform}
use Rattle.definition.specs.Sound.{station}
use Rattle.definition.specs.Clauses.Does.{Refuses}
use Rattle.reply.specs.Meaning.{RepliesBy}
use Rattle.reply.specs.ReplyLaws.{replies_at}
use Rattle.operations.specs.Meaning.{with_room}

-- ---- the test

pub lacks : (x : Bool) (n : ℕ) → x && ltb n 1552 ≡ true → (x ≡ true) × (n < 1552)
lacks true n e = (refl, ltb-true n 1552 e)
lacks false n e = absurd (let z : ◌≡◌ {A = ℕ} 0 1 = cc in omega arith)

pub suffices : (x : Bool) (n : ℕ) → x && ltb n 1552 ≡ false → x ≡ true → 1552 ≤ n
suffices true n e q = omega (arith, ltb-false n 1552 e)
suffices false n e q = absurd (let z : ◌≡◌ {A = ℕ} 0 1 = cc in omega arith)

module _ (c : CallValue) (n : ℕ) where
  pub no_room : (b a : Bytes) → asks_record (op_of c) ≡ true → n < 1552 → Refuses (perform c n) b b a a 30
  unfolding perform in_record
  no_room b a e h = record { stops = rw (e, lt-ltb n 1552 h); register = refl; answer = refl }

  same : (s : Bool) → (s ≡ true → 1552 ≤ n) → cond s (in_record n (step_for c)) (in_length n (step_for c)) ≡ cond s (step_for c) (in_length n (step_for c))
  unfolding in_record
  same true h = rw (le-ltb n 1552 (h refl))
  same false h = refl

  pub has_room : (y : Result ℕ ℕ) (b b' a a' : Bytes) → (asks_record (op_of c) ≡ true → 1552 ≤ n) → RepliesBy y (with_room c n) b b' a a' → RepliesBy y (perform c n) b b' a a'
  unfolding perform
  has_room y b b' a a' h w = replies_at y (with_room c n) (perform c n) b b' a a' (ap (λ (m : Step Answer). m (station b)) (same (asks_record (op_of c)) h)) w

-- ---- the arms

-- operations 3 to 6 and 13 ask for a record, whatever is done
pub plain_asks : (x : Action) (p : PlainValue) → asks_record (op_of (CallValue.plain x p)) ≡ true
plain_asks acknowledging p = refl
plain_asks suppressing p = refl

pub policy_asks : (d : Deed) (p : PolicyValue) → asks_record (op_of (CallValue.policy d p)) ≡ true
policy_asks (untimed acknowledging) p = refl
policy_asks (untimed suppressing) p = refl
policy_asks (until end) p = refl

-- so they are their steps
module _ (n : ℕ) (y : Result ℕ ℕ) (b b' a a' : Bytes) where
  pub plain_steps : (x : Action) (p : PlainValue) → RepliesBy y (plain x p) b b' a a' → RepliesBy y (with_room (CallValue.plain x p) n) b b' a a'
  plain_steps x p w = rw (plain_asks x p) w

  pub policy_steps : (d : Deed) (p : PolicyValue) → RepliesBy y (policy d p) b b' a a' → RepliesBy y (with_room (CallValue.policy d p) n) b b' a a'
  policy_steps d p w = rw (policy_asks d p) w

-- what the parser refused stays refused
pub stays_refused : (k n : ℕ) (b a : Bytes) → Refuses (perform (CallValue.refused k) n) b b a a k
unfolding perform in_length ◌>>=◌
stays_refused k n b a = record { stops = refl; register = refl; answer = refl }
