-- What the loop of `find_overfull` keeps: the best so far is the fullest of the levels from i on.
use mathlib.Core.Path.{◌≡◌}
use mathlib.Core.List.{[], ◌∷◌}
use lib.ListN.{drop}
use Rattle.ldc.specs.Layout.{length_in}
use Rattle.ldc.specs.Tidy.{fullest}
use Rattle.book.specs.Head.{head_words}
use Rattle.book.specs.Place.{the_index}
use Rattle.compact_pick.specs.Level.{Relieved}
use Rattle.compact_pick.proofs.level.find_overfull.Given as goal

abbrev pub invariant-loop-i : goal.invariant-loop-i
invariant-loop-i l = record {
  relieved : Relieved l.best;
  fullest_so_far : the_index l.best ≡ fullest (length_in (head_words l.head)) (drop l.i (0 ∷ 1 ∷ 2 ∷ []));
}
