-- `tally_all` meets its contract. The loop's invariant: all lists are good if those from the n-th on are, and the counts of all are
-- those at hand with the items of the lists from the n-th on added.
use Prim.Native.Nat.{◌-◌}
use mathlib.Core.Path.{◌≡◌}
use lib.ListN.{length}
use Rattle.ldc.specs.Lists.{all_from}
use Rattle.ldc.specs.Layout.{level_count}
use Rattle.check_places.specs.Lists.{tallied, listed, list_good, lists_good}
use Rattle.check_places.proofs.rule_b.tally_all.Given as goal

abbrev pub invariant-loop-n : goal.invariant-loop-n
invariant-loop-n l =
    (length l.counts ≡ length l.fn.counts)
    × (lists_good l.places l.lists l.head ≡ all_from (level_count - l.n) l.n (list_good l.places l.lists l.head))
    × (tallied l.fn.counts (listed level_count 0 l.places l.lists l.head) ≡ tallied l.counts (listed (level_count - l.n) l.n l.places l.lists l.head))
