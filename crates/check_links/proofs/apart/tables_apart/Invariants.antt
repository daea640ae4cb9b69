-- What the loop of `tables_apart` keeps: all tables are apart from each other if those from the i-th on are.
use mathlib.Core.Path.{◌≡◌}
use lib.ListN.{drop}
use Rattle.book.specs.Rows.{links_on}
use Rattle.check_walk.specs.Links.{pairs, cross_apart}
use Rattle.check_links.proofs.apart.tables_apart.Given as goal

abbrev pub invariant-loop-i : goal.invariant-loop-i
invariant-loop-i l =
    pairs (λ p q. cross_apart (links_on l.cards p) (links_on l.cards q)) l.items
    ≡ pairs (λ p q. cross_apart (links_on l.cards p) (links_on l.cards q)) (drop l.i l.items)
