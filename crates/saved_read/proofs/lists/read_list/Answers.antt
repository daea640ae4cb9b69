-- `read_list` meets its contract: the items, and zeros behind them.
use Rattle.std.proofs.Common.{◌∙◌}
use Rattle.saved_read.proofs.Levels.{part-whole}
use Rattle.saved_read.proofs.lists.read_list.Goals as goal

pub returns : goal.returns
returns c =
    part-whole c.args.part.now _ _ c.args.s.now c.args.at _ (c.from-n.ensures ∙ c.get_u16.ensures) c.requires.1
    c.read_items.ensures (c.fill.ensures.after (λ y h. h))
