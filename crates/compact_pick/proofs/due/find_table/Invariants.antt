-- What the loop of `find_table` keeps: the first of all is the first from the item at hand on.
use mathlib.Core.Path.{◌≡◌}
use lib.ListN.{drop}
use Rattle.ldc.specs.Lists.{first}
use Rattle.compact_pick.specs.Due.{passes_by}
use Rattle.compact_pick.proofs.due.find_table.Given as goal

abbrev pub invariant-loop-item : goal.invariant-loop-item
invariant-loop-item l =
    first (passes_by l.area l.cards l.wanted) l.items ≡ first (passes_by l.area l.cards l.wanted) (drop l.item-index l.items)
