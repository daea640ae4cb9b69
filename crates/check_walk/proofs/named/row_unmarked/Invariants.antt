-- `row_unmarked` meets its contract. The loop's invariant: no link's place is marked if none from the j-th on is.
use mathlib.Core.Path.{◌≡◌}
use lib.ListN.{drop}
use Rattle.ldc.specs.Lists.{all}
use Rattle.book.specs.Row.{links_in}
use Rattle.check_walk.specs.Links.{unmarked}
use Rattle.check_walk.proofs.named.row_unmarked.Given as goal

abbrev pub invariant-loop-j : goal.invariant-loop-j
invariant-loop-j l = all (unmarked l.marks) (links_in l.row) ≡ all (unmarked l.marks) (drop l.j (links_in l.row))
