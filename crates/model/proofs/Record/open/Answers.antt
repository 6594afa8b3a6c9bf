-- `open`: the two refusals in their order, and the fresh register.
use Rattle.std.proofs.Common.{◌≡◌, ◌+◌, ◌*◌, length, ◌∙◌, arith}
use Rattle.model.specs.OpeningLaws.{open_limits, open_length, open_done, parts_of_lem}
use Rattle.model.proofs.Record.open.Goals as goal

pub returns-in_default : goal.returns-in_default
returns-in_default c =
    let o = parts_of_lem (open_limits c.args.active c.args.history c.args.audit c.args.register.now c.in_default.ensures) in
    record { value = o.0; register_after = o.1 }

pub returns-then-register-capacity : goal.returns-then-register-capacity
returns-then-register-capacity c =
    let l = c.in-Some.ensures in
    let o = parts_of_lem (open_length c.args.active c.args.history c.args.audit c.args.register.now l.0 (λ e. c.if-register-capacity.true (omega (arith, e, c.capacity.ensures, l.1, l.2, l.3)))) in
    record { value = o.0; register_after = o.1 }

pub returns : goal.returns
returns c =
    let l = c.in-Some.ensures in
    let o = parts_of_lem (open_done c.args.active c.args.history c.args.audit c.args.register.now l.0 (omega (arith, c.if-register-capacity.false, c.capacity.ensures, l.1, l.2, l.3))) in
    record { value = o.0; register_after = rw (l.1, l.2, l.3) at c.lay_out.ensures ∙ o.1 }
