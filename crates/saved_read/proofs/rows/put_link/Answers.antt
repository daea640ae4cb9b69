-- `put_link` meets its contract: four stores, one behind the other.
use Rattle.std.proofs.Common.{◌∙◌}
use Rattle.saved_read.proofs.Cards.{link-put}
use Rattle.saved_read.proofs.rows.put_link.Goals as goal

pub returns : goal.returns
returns c =
    link-put c.args.row.now c.args.s.now c.args.at c.args.i _ _ _ _ _
    c.link_start-to.ensures (c.from.ensures ∙ c.get_u16.ensures)
    c.get_u64.ensures c.get_u64-2.ensures (c.from-2.ensures ∙ c.get_u16-2.ensures)
