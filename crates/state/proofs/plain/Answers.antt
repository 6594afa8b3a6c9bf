-- `plain`: a flag that says no is not authorised.
use mathlib.Core.Path.{refl, ap, sym}
use native.Mathlib.Omega.{arith}
use Rattle.std.proofs.lemmas.Bool.{eqb-true, eqb-false}
use Rattle.octets.specs.Bytes.{Bytes}
use Rattle.definition.specs.Steps.{plain}
use Rattle.state.specs.Meaning.{plain_of}
use Rattle.model.specs.Meaning.{action_of}
use Rattle.model.specs.PartLaws.{part_short}
use Rattle.state.specs.ActLaws.{answers_as, unauthorised}
use Rattle.state.proofs.plain.Goals as goal

pub returns-then-says_no : goal.returns-then-says_no
returns-then-says_no c =
    unauthorised (action_of c.args.action) _ _ _ _ _ _ _ c.requires.0.whole _ (eqb-true c.args.p.authorised 0 (sym c.if-says_no.ensures)) refl c.not_authorized.ensures

pub returns : goal.returns
returns c =
    answers_as (ap (λ (d : Bytes). plain (action_of c.args.action) (plain_of c.args.p.time d c.args.p.authorised)) c.part.ensures)
    (c.plain_on.ensures c.args.p.authorised (omega (arith, eqb-false c.args.p.authorised 0 (sym c.if-says_no.ensures))))

pub plain_on-requires : goal.plain_on-requires
plain_on-requires c =
    (c.requires.0, part_short _ _ _ c.part.ensures c.requires.1, c.requires.2)
