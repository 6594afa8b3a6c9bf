-- Six answers joined by and.
use Rattle.register_check.proofs.JudgeLaws.{apart_decides}
use Rattle.register_check.proofs.apart.Goals as goal

pub returns : goal.returns
returns c =
    apart_decides _ _ _ _
    c.differ.result c.differ-2.result c.differ-3.result c.differ-4.result c.differ-5.result c.differ-6.result
    c.differ.ensures c.differ-2.ensures c.differ-3.ensures c.differ-4.ensures c.differ-5.ensures c.differ-6.ensures
