-- `places_good` meets its contract. The loop's invariant: all places are good if those from p on are.
use Prim.Native.Nat.{◌-◌}
use mathlib.Core.Path.{◌≡◌}
use lib.ListN.{length}
use Rattle.ldc.specs.Lists.{all_from}
use Rattle.check_places.specs.Lists.{place_good, places_good}
use Rattle.check_places.proofs.rule_b.places_good.Given as goal

abbrev pub invariant-loop-p : goal.invariant-loop-p
invariant-loop-p l = places_good l.cards l.counts ≡ all_from (length l.cards - l.p) l.p (place_good l.cards l.counts)
