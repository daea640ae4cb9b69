-- `mark_row` meets its contract. The loop's invariant: the marks of all links are those at hand with the links from the j-th on added.
use mathlib.Core.Path.{◌≡◌}
use lib.ListN.{length, drop}
use Rattle.book.specs.Row.{links_in}
use Rattle.check_walk.specs.Links.{links_marked}
use Rattle.check_walk.proofs.named.mark_row.Given as goal

abbrev pub invariant-loop-j : goal.invariant-loop-j
invariant-loop-j l =
    (length l.marks ≡ length l.fn.marks)
    × (links_marked l.fn.marks (links_in l.row) ≡ links_marked l.marks (drop l.j (links_in l.row)))
