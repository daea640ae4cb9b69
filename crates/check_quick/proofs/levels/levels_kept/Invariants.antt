-- `levels_kept` meets its contract. The loop's invariant: the links of all levels are apart if those from level n on are, with the marks
-- at hand, and the spans of all levels rise if those from level n on do.
use Prim.Native.Nat.{◌-◌}
use mathlib.Core.Path.{◌≡◌}
use lib.ListN.{length}
use Rattle.table.specs.Table.{zeros}
use Rattle.ldc.specs.Lists.{all_from}
use Rattle.ldc.specs.Layout.{level_count}
use Rattle.check_walk.specs.Links.{levels_apart}
use Rattle.check_places.specs.Parts.{level_rises}
use Rattle.check_quick.proofs.levels.levels_kept.Given as goal

abbrev pub invariant-loop-n : goal.invariant-loop-n
invariant-loop-n l =
    (levels_apart 3 1 l.cards l.lists l.head (zeros (length l.cards)) ≡ levels_apart (level_count - l.n) l.n l.cards l.lists l.head l.marks)
    × (all_from 3 1 (level_rises l.area l.cards l.lists l.head) ≡ all_from (level_count - l.n) l.n (level_rises l.area l.cards l.lists l.head))
