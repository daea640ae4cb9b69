-- One table's links, and those of the tables behind it.
use mathlib.Core.Path.{sym, ◌∙◌}
use native.Mathlib.Omega.{arith}
use Rattle.book.specs.Rows.{links_on}
use Rattle.check_walk.proofs.Items.{below-item}
use Rattle.check_walk.proofs.LinkLaws.{items-turn, items-end}
use Rattle.check_walk.proofs.named.mark_items.Goals as goal

pub bounds-cards-from : goal.bounds-cards-from
bounds-cards-from c = rw c.from.ensures (below-item _ _ c.loop-p.p-index c.requires c.loop-p-test.true)

pub loop-p-preserved : goal.loop-p-preserved
unfolding links_on
loop-p-preserved c =
    let l = c.loop-p in
    l.invariant ∙ items-turn l.marks c.args.cards.now c.args.items.now l.p-index c.loop-p-test.true ∙ rw (c.mark_row.ensures, c.from.ensures)

pub returns : goal.returns
returns c = let l = c.loop-p in sym (l.invariant ∙ items-end l.marks c.args.cards.now c.args.items.now l.p-index (omega arith))
