-- `rows_kept` meets its contract. The loop's invariant: all rows are good if those from the p-th on are, and the marks of all rows are
-- those at hand with the rows from the p-th on added.
use mathlib.Core.Path.{◌≡◌}
use mathlib.Core.List.{map}
use lib.ListN.{drop}
use Rattle.ldc.specs.Lists.{all, flat}
use Rattle.book.specs.Row.{links_in}
use Rattle.check_walk.specs.Links.{links_marked}
use Rattle.check_quick.specs.Rest.{row_kept}
use Rattle.check_quick.proofs.rows.rows_kept.Given as goal

abbrev pub invariant-loop-row : goal.invariant-loop-row
invariant-loop-row l =
    (all (row_kept l.area l.cards l.threshold) l.cards ≡ all (row_kept l.area l.cards l.threshold) (drop l.row-index l.cards))
    × (links_marked l.fn.marks (flat (map links_in l.cards)) ≡ links_marked l.marks (flat (map links_in (drop l.row-index l.cards))))
