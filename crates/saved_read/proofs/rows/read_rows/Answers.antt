-- `read_rows` meets its contract: the rows saved, and free ones behind them.
use Rattle.std.proofs.Common.{◌∙◌}
use Rattle.saved_read.proofs.Cards.{rows_whole}
use Rattle.saved_read.proofs.rows.read_rows.Goals as goal

pub returns : goal.returns
returns c =
    rows_whole c.args.rows.now _ _ c.args.s.now _ (c.from-n.ensures ∙ c.get_u16.ensures) c.requires.1 c.put_rows.ensures c.free_from.ensures
