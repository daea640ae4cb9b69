-- What the loop of `levels_rise` keeps: the spans of all levels rise if those from level n on do.
use Prim.Native.Nat.{◌-◌}
use mathlib.Core.Path.{◌≡◌}
use Rattle.ldc.specs.Lists.{all_from}
use Rattle.ldc.specs.Layout.{level_count}
use Rattle.check_places.specs.Parts.{level_rises}
use Rattle.check_store.proofs.rule_g.levels_rise.Given as goal

abbrev pub invariant-loop-n : goal.invariant-loop-n
invariant-loop-n l =
    all_from 3 1 (level_rises l.area l.cards l.lists l.head) ≡ all_from (level_count - l.n) l.n (level_rises l.area l.cards l.lists l.head)
