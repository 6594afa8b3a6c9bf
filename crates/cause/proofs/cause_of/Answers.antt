-- A name, or what stands behind `other:`.
use Rattle.cause.proofs.Ways.{name_yes, found}
use Rattle.cause.proofs.cause_of.Goals as goal

pub returns-in-Some : goal.returns-in-Some
returns-in-Some c =
    let p = found _ c.name.ensures c.in-Some.is in
    (name_yes _ c.in-Some.k p.0 p.1, p.0)
