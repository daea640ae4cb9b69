-- The rows are what is written with as many free ones as are left, from the i-th on.
use Rattle.std.proofs.Common.{◌≡◌, ◌-◌, length, replicate}
use lib.Seq.{sets}
use Rattle.table.specs.Table.{zeros}
use Rattle.summary.specs.Summary.{summary_words}
use Rattle.ldc.specs.Store.{free}
use Rattle.ldc.specs.Layout.{row_with}
use Rattle.saved_read.proofs.rows.free_from.Given as goal

abbrev pub invariant-loop-i : goal.invariant-loop-i
invariant-loop-i l =
    sets l.fn.rows l.from (replicate (length l.fn.rows - l.from) (row_with free (zeros summary_words)))
    ≡ sets l.rows l.i (replicate (length l.rows - l.i) (row_with free (zeros summary_words)))
