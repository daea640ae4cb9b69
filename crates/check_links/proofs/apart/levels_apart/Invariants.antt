-- What the loop of `levels_apart` keeps: the links of all levels are apart if those from level n on are, with the marks at hand.
use Prim.Native.Nat.{◌-◌}
use mathlib.Core.Path.{◌≡◌}
use lib.ListN.{length}
use Rattle.table.specs.Table.{zeros}
use Rattle.ldc.specs.Layout.{level_count}
use Rattle.check_walk.specs.Links.{levels_apart}
use Rattle.check_links.proofs.apart.levels_apart.Given as goal

abbrev pub invariant-loop-n : goal.invariant-loop-n
invariant-loop-n l = record {
  long : length l.marks ≡ length l.cards;
  left_over : levels_apart 3 1 l.cards l.lists l.head (zeros (length l.cards)) ≡ levels_apart (level_count - l.n) l.n l.cards l.lists l.head l.marks;
}
