-- `lists_rest_zero` meets its contract. The loop's invariant: all rests are zero if those from level n on are.
use Prim.Native.Nat.{◌-◌}
use mathlib.Core.Path.{◌≡◌}
use Rattle.ldc.specs.Lists.{all_from}
use Rattle.ldc.specs.Layout.{level_count}
use Rattle.check_places.specs.Parts.{list_rest_zero}
use Rattle.check_places.proofs.unused.lists_rest_zero.Given as goal

abbrev pub invariant-loop-n : goal.invariant-loop-n
invariant-loop-n l =
    all_from level_count 0 (list_rest_zero l.places l.lists l.head) ≡ all_from (level_count - l.n) l.n (list_rest_zero l.places l.lists l.head)
