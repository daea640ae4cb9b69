-- `free_from` meets its contract: a turn writes the first of the free ones left.
use Rattle.std.proofs.Common.{◌∙◌, arith, length}
use lib.ListN.{length-set}
use Rattle.table.specs.Table.{zeros}
use Rattle.summary.specs.Summary.{summary_words}
use Rattle.ldc.specs.Store.{free}
use Rattle.ldc.specs.Layout.{row_with}
use Rattle.saved_read.proofs.Cards.{free-turn}
use Rattle.saved_read.proofs.rows.free_from.Goals as goal

pub loop-i-preserved : goal.loop-i-preserved
loop-i-preserved c =
    let l = c.loop-i in
    rw c.free.ensures (simp length-set (l.invariant ∙ free-turn l.rows (row_with free (zeros summary_words)) (length l.rows) l.i (omega arith)))
