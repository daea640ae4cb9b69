-- `items_unmarked` meets its contract. The loop's invariant: no table's links name a marked place if none of those from the i-th on do.
use mathlib.Core.Path.{◌≡◌}
use lib.ListN.{drop}
use Rattle.ldc.specs.Lists.{all}
use Rattle.book.specs.Rows.{links_on}
use Rattle.check_walk.specs.Links.{links_over, unmarked}
use Rattle.check_walk.proofs.named.items_unmarked.Given as goal

abbrev pub invariant-loop-p : goal.invariant-loop-p
invariant-loop-p l =
    all (unmarked l.marks) (links_over l.cards l.items) ≡ all (λ p. all (unmarked l.marks) (links_on l.cards p)) (drop l.p-index l.items)
