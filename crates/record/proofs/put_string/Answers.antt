-- The length, the bytes and the zeros behind them are three splices, one behind the other.
use Rattle.definition.proofs.Laws.Record.ChangedSlot.{string_splices}
use Rattle.record.proofs.put_string.Goals as goal

pub returns : goal.returns
returns c =
    string_splices _ _ _ _ _ c.args.at c.args.n c.requires.0 c.requires.1 c.put16.ensures c.put_bytes.ensures c.put_zeros.ensures
