-- The walks of the four chains one after the other; one that gives none shows that the bytes are not sound.
use Rattle.register_check.proofs.JudgeLaws.{broken, gives}
use Rattle.register.specs.declared.Chain.TheVariants.{Active, History, Audit, Free}
use Rattle.register_check.proofs.chains.Goals as goal

pub returns-in_err-active : goal.returns-in_err-active
returns-in_err-active c = rw c.from_residual.ensures (broken _ _ c.requires Active c.in_err-active.ensures)

pub returns-in_err-history : goal.returns-in_err-history
returns-in_err-history c = rw c.from_residual-in_err-history.ensures (broken _ _ c.requires History c.in_err-history.ensures)

pub returns-in_err-audit : goal.returns-in_err-audit
returns-in_err-audit c = rw c.from_residual-in_err-audit.ensures (broken _ _ c.requires Audit c.in_err-audit.ensures)

pub returns-in_err-free : goal.returns-in_err-free
returns-in_err-free c = rw c.from_residual-in_err-free.ensures (broken _ _ c.requires Free c.in_err-free.ensures)

pub returns : goal.returns
returns c =
    rw c.then_some.ensures
    (gives _ _ c.requires _ _ _ _ c.in_ok-active.ensures c.in_ok-history.ensures c.in_ok-audit.ensures c.in_ok-free.ensures (λ i. (c.type_inv.register i).fits) c.apart.result c.apart.ensures)
