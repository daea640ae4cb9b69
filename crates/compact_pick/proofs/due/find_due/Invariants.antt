-- What the loop of `find_due` keeps: the due table of all levels is that of levels n to 3; one that is not looked at is known to have none.
use Prim.Native.Nat.{◌-◌}
use mathlib.Core.Path.{◌≡◌}
use mathlib.Core.List.{[], ◌∷◌}
use lib.ListN.{drop}
use Rattle.ldc.specs.Store.{Store}
use Rattle.ldc.specs.Tidy.{due_in, due_table}
use Rattle.book.specs.Head.{head_words}
use Rattle.book.specs.Pieces.{lent}
use Rattle.compact_pick.specs.Calm.{CalmBut}
use Rattle.compact_pick.specs.Due.{ToldBy}
use Rattle.compact_pick.proofs.due.find_due.Given as goal

abbrev pub invariant-loop-n : goal.invariant-loop-n
invariant-loop-n l =
    (s : Store) → ToldBy s (lent l.area l.cards l.lists (head_words l.head) []) → CalmBut l.suspect s
    → due_table s ≡ due_in s (drop (l.n - 1) (1 ∷ 2 ∷ 3 ∷ []))
