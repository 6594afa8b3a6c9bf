-- Each test's answer shows a part of the header, or that it is wrong.
use Rattle.std.proofs.Common.{arith}
use Rattle.definition.proofs.Laws.Book.CheckParts.{confirms, refutes, capacity_read, numbers_of_lem, size_of}
use Rattle.register_check.proofs.JudgeLaws.{limits_read, lengths_read, tail_decides, headed}
use Rattle.register_check.proofs.header.Goals as goal

pub returns-then-not-are_limits : goal.returns-then-not-are_limits
returns-then-not-are_limits c = λ m h.
    refutes _ (limits_read _ c.get32-a.ensures c.get32-h.ensures c.get32-e.ensures _ c.are_limits.ensures) c.if-not-are_limits.true h.numbers.limits

pub counts_ok-requires : goal.counts_ok-requires
counts_ok-requires c =
    omega (arith, confirms _ (limits_read _ c.get32-a.ensures c.get32-h.ensures c.get32-e.ensures _ c.are_limits.ensures) c.if-not-are_limits.false)

pub returns-then-not-counts_ok : goal.returns-then-not-counts_ok
returns-then-not-counts_ok c = λ m h.
    refutes _ (lengths_read _ c.get32-a.ensures c.get32-h.ensures c.get32-e.ensures _ c.counts_ok.ensures) c.if-not-counts_ok.true h.numbers.lengths

pub overflow_add-capacity : goal.overflow_add-capacity
overflow_add-capacity c =
    omega (arith, confirms _ (limits_read _ c.get32-a.ensures c.get32-h.ensures c.get32-e.ensures _ c.are_limits.ensures) c.if-not-are_limits.false)

pub overflow_add-capacity-2 : goal.overflow_add-capacity-2
overflow_add-capacity-2 c =
    omega (arith, confirms _ (limits_read _ c.get32-a.ensures c.get32-h.ensures c.get32-e.ensures _ c.are_limits.ensures) c.if-not-are_limits.false)

pub returns-then-register-capacity : goal.returns-then-register-capacity
returns-then-register-capacity c = λ m h. c.if-register-capacity.true (omega (arith, size_of _ h.numbers))

pub returns : goal.returns
returns c =
    let b = c.args.register.now in
    let limits = confirms _ (limits_read b c.get32-a.ensures c.get32-h.ensures c.get32-e.ensures _ c.are_limits.ensures) c.if-not-are_limits.false in
    let lengths = confirms _ (lengths_read b c.get32-a.ensures c.get32-h.ensures c.get32-e.ensures _ c.counts_ok.ensures) c.if-not-counts_ok.false in
    rw c.then_some.ensures
    (headed b _ (omega (arith, capacity_read b)) (numbers_of_lem b limits (omega arith) lengths)
    _ (tail_decides b _ (omega arith) c.is_blank.ensures))
