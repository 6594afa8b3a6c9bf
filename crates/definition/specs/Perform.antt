-- A call on a station, with refusal 30; what the parser refused stays refused.
use Rattle.std.specs.Prelude.{ℕ, Bool, cond, ◌&&◌, ◌||◌, leb, eqb, ltb, length}
use Rattle.definition.specs.Value.{CallValue, op_of}
use Rattle.definition.specs.Station.{Step, ◌>>=◌, give, refuse}
use Rattle.definition.specs.Answer.{Answer, answer_bytes}
use Rattle.definition.specs.Steps.{raise, clear, plain, policy, expire, lift}
use Rattle.definition.specs.Reports.{active_list, history_list, counts, summary, take_audit}

-- ---- the step of a call

abbrev pub step_for : CallValue → Step Answer
step_for (CallValue.raise c) = raise c
step_for (CallValue.clear c) = clear c
step_for (CallValue.plain x p) = plain x p
step_for (CallValue.policy d p) = policy d p
step_for (CallValue.expire t) = expire t
step_for (CallValue.active v) = active_list v
step_for (CallValue.history t l) = history_list t l
step_for CallValue.counts = counts
step_for CallValue.summary = summary
step_for (CallValue.take_audit k) = take_audit k
step_for (CallValue.lift t) = lift t
step_for (CallValue.refused k) = refuse k

-- ---- 30: "shorter than 1,552 (ops 1 to 7, 11) or than the answer (8, 9, 10, 12)"; n is the answer slice's length

-- before the step
unfoldable pub in_record : ℕ → Step Answer → Step Answer
in_record n m = cond (ltb n 1552) (refuse 30) m

-- after it: a call that is refused has no answer
unfoldable pub in_length : ℕ → Step Answer → Step Answer
in_length n m = do
  a ← m
  cond (ltb n (length (answer_bytes a))) (refuse 30) (give a)

-- "ops 1 to 7, 11"; M-105: "Answer 30 treats 13 and 14 as ops 1 to 7"
abbrev pub asks_record : ℕ → Bool
asks_record op = (leb 1 op && leb op 7) || eqb op 11 || eqb op 13 || eqb op 14

abbrev pub in_room : ℕ → ℕ → Step Answer → Step Answer
in_room op n m = cond (asks_record op) (in_record n m) (in_length n m)

-- the call, and the answer slice's length
unfoldable pub perform : CallValue → ℕ → Step Answer
perform c n = in_room (op_of c) n (step_for c)
