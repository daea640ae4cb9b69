-- What the loop of `weighs` keeps: all numbers come to what is asked if those from the j-th on come to what is left.
use mathlib.Core.Path.{◌≡◌}
use lib.Dec.{leb}
use lib.ListN.{drop}
use Rattle.ldc.specs.Tidy.{weight}
use Rattle.book.specs.Row.{links_in}
use Rattle.compact_pick.proofs.due.weighs.Given as goal

abbrev pub invariant-loop-j : goal.invariant-loop-j
invariant-loop-j l = leb l.own (weight (links_in l.row)) ≡ leb l.left (weight (drop l.j (links_in l.row)))
