-- `read_items` meets its contract: a turn writes the first of the items left.
use Rattle.std.proofs.Common.{arith, ◌∙◌}
use lib.ListN.{length-set}
use Rattle.saved_read.proofs.Levels.{items-start, items-turn}
use Rattle.saved_read.proofs.lists.read_items.Goals as goal

pub loop-i-init : goal.loop-i-init
loop-i-init c = items-start _ _ _

pub loop-i-preserved : goal.loop-i-preserved
loop-i-preserved c =
    let l = c.loop-i in
    simp length-set (rw c.get_u16.ensures (l.invariant ∙ items-turn l.part _ _ _ l.i (omega arith)))
