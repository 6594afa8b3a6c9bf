-- `row_of`: no row before the one that is found has the rating.
use Prim.Native.Nat.{◌≤◌}
use lib.ListN.{length, take}
use mathlib.Core.Bool.{true, false}
use borrow.Author.Rules.{rules}
use borrow.Author.Tests.{tests}
use Rattle.std.proofs.lemmas.Iterator.{YieldsList-from_slice, IsFirst-from_position}
use Rattle.std.proofs.lemmas.Iterator.Adapters.{serves_from_places}
use Rattle.metrics.specs.Meaning.{Fits, rating_at}
use Rattle.metrics.specs.TableLaws.{fits_at, has, row_found}
use Rattle.metrics.proofs.table.Table.row_of.Goals as goal

pub position-requires-clause-callable : goal.position-requires-clause-callable
position-requires-clause-callable c =
    serves_from_places (YieldsList-from_slice (take c.args.self.now.held c.args.self.now.rows) cc) (λ x q k. search rules)
    (λ x k l e.
    let there : Fits c.args.register.now x.now.record = fits_at c.args.self.now.held k c.args.self.now.rows c.args.register.now x.now c.requires.1 l e in
    search rules)

pub returns-clause-row : goal.returns-clause-row
returns-clause-row c =
    let long : c.args.self.now.held ≤ length c.args.self.now.rows = search rules in
    let q = rating_at c.args.register.now c.args.i in
    row_found c.args.register.now c.args.self.now.held c.args.self.now.rows q c.position.result long
    (IsFirst-from_position _ _ _ (has c.args.register.now q true) (has c.args.register.now q false) c.position.ensures.ran (YieldsList-from_slice (take c.args.self.now.held c.args.self.now.rows) cc)
    (λ x q k. search (rules, tests)) (λ x q k. search (rules, tests)))
