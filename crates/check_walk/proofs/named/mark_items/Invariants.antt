-- `mark_items` meets its contract. The loop's invariant: the marks of all tables are those at hand with the tables from the i-th on added.
use mathlib.Core.Path.{◌≡◌}
use lib.ListN.{drop}
use Rattle.check_walk.specs.Links.{links_over, links_marked}
use Rattle.check_walk.proofs.named.mark_items.Given as goal

abbrev pub invariant-loop-p : goal.invariant-loop-p
invariant-loop-p l =
    links_marked l.fn.marks (links_over l.cards l.items) ≡ links_marked l.marks (links_over l.cards (drop l.p-index l.items))
