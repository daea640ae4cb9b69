-- What the loop of `serve_all` keeps: what a run of the whole list leaves is what is left when the rest is served from here on, and memory is kept.
use Prim.Native.Nat.{◌-◌}
use mathlib.Core.Path.{◌≡◌}
use lib.ListN.{length}
use Rattle.book.specs.Head.{head_words}
use Rattle.book.specs.Pieces.{lent}
use Rattle.serve_list.proofs.Ahead.{Goes}
use Rattle.serve_list.proofs.list.serve_all.Given as goal

abbrev pub invariant-loop-at : goal.invariant-loop-at
invariant-loop-at l =
    Goes (lent l.initial.area l.initial.cards l.initial.lists (head_words l.initial.reached) l.initial.memory) l.list l.initial.answer
    (lent l.area l.cards l.lists (head_words l.reached) l.memory) l.answer l.suspect l.at l.served l.written
    × ((length l.area ≡ length l.initial.area) × ((length l.cards ≡ length l.initial.cards) × ((length l.lists ≡ length l.initial.lists)
    × ((length l.memory ≡ length l.initial.memory) × (length l.answer ≡ length l.initial.answer)))))

abbrev pub decreases-loop-at : goal.decreases-loop-at
decreases-loop-at l = length l.list - l.at
