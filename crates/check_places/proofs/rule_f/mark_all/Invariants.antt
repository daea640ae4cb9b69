-- `mark_all` meets its contract. The loop's invariant: the marks of all rows are those at hand with the rows from the p-th on added.
use mathlib.Core.Path.{◌≡◌}
use mathlib.Core.List.{map}
use lib.ListN.{drop}
use Rattle.ldc.specs.Lists.{flat}
use Rattle.book.specs.Row.{links_in}
use Rattle.check_walk.specs.Links.{links_marked}
use Rattle.check_places.proofs.rule_f.mark_all.Given as goal

abbrev pub invariant-loop-row : goal.invariant-loop-row
invariant-loop-row l =
    links_marked l.fn.marks (flat (map links_in l.cards)) ≡ links_marked l.marks (flat (map links_in (drop l.row-index l.cards)))
