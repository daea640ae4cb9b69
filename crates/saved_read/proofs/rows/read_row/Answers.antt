-- `read_row` meets its contract: a turn writes the first of the links left.
use Rattle.std.proofs.Common.{◌+◌, ◌*◌, ◌-◌, ◌∙◌, arith}
use Rattle.table.specs.Table.{zeros}
use Rattle.saved_book.specs.Form.{card_head, link_width}
use Rattle.saved_read.proofs.Cards.{row-start, link-turn}
use Rattle.saved_read.proofs.rows.read_row.Goals as goal

pub loop-i-init : goal.loop-i-init
unfolding zeros
loop-i-init c =
    let n = c.count_at-n.result in
    row-start c.args.s.now c.args.at c.from.result n (n - 0) (c.args.at + card_head + link_width * 0)
    (c.from.ensures ∙ c.get_u16.ensures) c.count_at-n.ensures (omega (arith, c.requires.0)) (omega arith) (omega arith)

pub loop-i-preserved : goal.loop-i-preserved
loop-i-preserved c =
    let l = c.loop-i in
    rw c.put_link.ensures (l.invariant ∙ link-turn l.row c.args.s.now (c.args.at + card_head) _ l.i (omega arith))
