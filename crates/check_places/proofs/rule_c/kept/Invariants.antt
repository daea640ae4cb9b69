-- `kept` of rule C meets its contract. The loop's invariant: all places are good if those from p on are, and the greatest keys of the
-- tables before p are noted.
use Prim.Native.Nat.{◌-◌}
use mathlib.Core.Path.{◌≡◌}
use lib.ListN.{length}
use Rattle.ldc.specs.Lists.{all_from}
use Rattle.check_places.specs.Links.{place_tabled, walk_c}
use Rattle.check_places.proofs.FoundLaws.{NotedTo}
use Rattle.check_places.proofs.rule_c.kept.Given as goal

abbrev pub invariant-loop-p : goal.invariant-loop-p
invariant-loop-p l =
    (length l.ends ≡ length l.fn.ends)
    × (walk_c l.area l.cards ≡ all_from (length l.cards - l.p) l.p (place_tabled l.area l.cards))
    × NotedTo l.p l.area l.cards l.ends
