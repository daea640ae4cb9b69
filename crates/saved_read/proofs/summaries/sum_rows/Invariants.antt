-- The rows are what is written with the summaries of those left, from the p-th on.
use Rattle.std.proofs.Common.{◌≡◌, drop}
use lib.Seq.{sets}
use Rattle.saved_book.specs.Opened.{summed_rows}
use Rattle.saved_read.proofs.Sums.{places_of}
use Rattle.saved_read.proofs.summaries.sum_rows.Given as goal

abbrev pub invariant-loop-p : goal.invariant-loop-p
invariant-loop-p l = summed_rows l.fn.rows (places_of l.area) ≡ sets l.rows l.p (summed_rows (drop l.p l.rows) (drop l.p (places_of l.area)))
