-- `tally` meets its contract. The loop's invariant: all items name places if those from the i-th on do, and the counts of the whole
-- list are those at hand with the items from the i-th on added.
use mathlib.Core.Path.{◌≡◌}
use lib.Dec.{ltb}
use lib.ListN.{length, drop}
use Rattle.ldc.specs.Lists.{all}
use Rattle.check_walk.specs.Lists.{names_places}
use Rattle.check_places.specs.Lists.{tallied}
use Rattle.check_places.proofs.rule_b.tally.Given as goal

abbrev pub invariant-loop-p : goal.invariant-loop-p
invariant-loop-p l =
    (length l.counts ≡ length l.fn.counts)
    × (names_places l.places l.items ≡ all (λ x. ltb x l.places) (drop l.p-index l.items))
    × (tallied l.fn.counts l.items ≡ tallied l.counts (drop l.p-index l.items))
