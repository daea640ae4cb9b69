-- `measure` meets its contract. The loop's invariant: the ends of all links are those at hand with the links from the j-th on.
use mathlib.Core.Path.{◌≡◌}
use lib.ListN.{drop}
use Rattle.table.specs.Table.{entries}
use Rattle.table.specs.Search.{least_key, greatest_key}
use Rattle.ldc.specs.Store.{least_end, greatest_end}
use Rattle.book.specs.Row.{links_in}
use Rattle.check_walk.proofs.span.measure.Given as goal

abbrev pub invariant-loop-j : goal.invariant-loop-j
invariant-loop-j l =
    (least_end (least_key (entries l.place)) (links_in l.row) ≡ least_end l.start.value (drop l.j (links_in l.row)))
    × (greatest_end (greatest_key (entries l.place)) (links_in l.row) ≡ greatest_end l.end.value (drop l.j (links_in l.row)))
