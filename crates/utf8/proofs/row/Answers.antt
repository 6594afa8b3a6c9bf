-- Too few bytes; a second one outside its range; or what the tails decide.
use Rattle.std.proofs.Common.{rules, ◌∙◌}
use Rattle.std.proofs.lemmas.Iterator.{YieldsList-from_slice}
use Rattle.std.proofs.lemmas.Iterator.Search.{all_from_yields_List}
use Rattle.std.proofs.Common.{◌≡◌, get_or, take, drop, ◌-◌, true, false, arith}
use Rattle.std.proofs.lemmas.Bool.Decides.{nat_tests}
use borrow.Author.Tests.{tests}
use Rattle.definition.specs.Utf8.{inside, tail, ◌–◌}
use Rattle.utf8.proofs.Rows.{row_short, row_second, row_tails}
use Rattle.utf8.proofs.row.Goals as goal

pub returns-then-s-n : goal.returns-then-s-n
returns-then-s-n c = row_short _ _ _ (search rules) (search rules)

pub returns-then-not-contains : goal.returns-then-not-contains
returns-then-not-contains c =
    let e : inside (c.args.lo – c.args.hi) (get_or c.args.s.now 1 0) ≡ false = grind (arith, nat_tests, c.new.ensures, c.contains.ensures.value, c.if-not-contains.true) in
    row_second _ _ _ (search rules) e

pub returns : goal.returns
returns c =
    let e : inside (c.args.lo – c.args.hi) (get_or c.args.s.now 1 0) ≡ true = search rules in
    c.then_some.ensures
    ∙ row_tails _ _ _ _ (search rules) (search rules) e
    (all_from_yields_List {all = take (c.args.n - 2) (drop 2 c.args.s.now)} (inside tail) _ _ _ c.all.ensures.ran (YieldsList-from_slice _ cc) (λ x b q k. search (rules, tests)))
