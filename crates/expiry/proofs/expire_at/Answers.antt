-- `expire_at`: the payload is taken out, changed and goes into history.
use borrow.Author.Rules.{rules}
use Rattle.definition.proofs.Laws.Steps.ChangedLegal.{expired_legal}
use Rattle.definition.specs.Steps.{retire, expired_by}
use Rattle.expiry.specs.SweepLaws.{taken_payload, taken_files}
use Rattle.expiry.proofs.expire_at.Goals as goal

pub load-p-requires : goal.load-p-requires
load-p-requires c = (c.requires.0.whole, c.requires.1.on)

pub expired_by-requires : goal.expired_by-requires
expired_by-requires c = c.load-p.ensures.1

pub retire-requires : goal.retire-requires
retire-requires c =
    (c.requires.0, c.requires.1, (taken_payload _ _ _ _ (expired_by c.args.cutoff) _ c.requires.0.whole c.requires.1.on (expired_legal c.args.cutoff _ (search rules)) c.load-p.ensures.0 c.expired_by.ensures).0)

pub returns : goal.returns
returns c =
    taken_files _ _ _ _ (expired_by c.args.cutoff) _ c.requires.0.whole c.requires.1.on (expired_legal c.args.cutoff _ (search rules)) c.load-p.ensures.0 c.expired_by.ensures (retire c.args.i) _ _ c.retire.ensures
