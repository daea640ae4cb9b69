-- `all_are` meets its contract. The loop's invariant: all are zero if those passed are, as `found` says, and those from x on.
use mathlib.Core.Path.{◌≡◌}
use mathlib.Core.Bool.{◌&&◌}
use lib.ListN.{drop}
use Rattle.ldc.specs.Lists.{all}
use Rattle.check_places.proofs.unused.all_are.Given as goal

abbrev pub invariant-loop-x : goal.invariant-loop-x
invariant-loop-x g l = all (λ x. g.T.PartialEq.eq x l.zero) l.numbers ≡ l.found && all (λ x. g.T.PartialEq.eq x l.zero) (drop l.x-index l.numbers)
