-- `choose` meets its contract: the first without links in the round's two parts, or the round's first.
use Rattle.compact_pick.proofs.Choices.{front-goes, back-goes, first-merges}
use Rattle.compact_pick.proofs.choice.choose.Goals as goal

pub returns-in-Some : goal.returns-in-Some
returns-in-Some c s o =
    front-goes s c.args.area.now c.args.cards.now c.args.items.now c.args.n _ _ o (c.find_start-k.ensures.1 s o.reads)
    c.find_table.result c.find_table.ensures c.in-Some.p c.in-Some.is

pub returns-in-Some-find_table : goal.returns-in-Some-find_table
returns-in-Some-find_table c s o =
    back-goes s c.args.area.now c.args.cards.now c.args.items.now c.args.n _ _ o (c.find_start-k.ensures.1 s o.reads)
    c.find_table.result c.find_table.ensures c.in_default.is c.find_table-2.result c.find_table-2.ensures
    c.in-Some-find_table.p c.in-Some-find_table.is

pub returns : goal.returns
returns c s o =
    rw c.pick_first.ensures
    (first-merges s c.args.area.now c.args.cards.now c.args.items.now c.args.n _ _ o (c.find_start-k.ensures.1 s o.reads)
    c.find_table.result c.find_table.ensures c.in_default.is c.find_table-2.result c.find_table-2.ensures c.in_default-find_table.is)
