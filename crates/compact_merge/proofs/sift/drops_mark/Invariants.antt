-- No span of the levels from n + 1 up to this one holds the key.
use Rattle.std.proofs.Common.{◌≡◌, suc}
use Rattle.book.specs.Head.{head_words}
use Rattle.compact_merge.proofs.Drops.{held_from}
use Rattle.compact_merge.proofs.sift.drops_mark.Given as goal

abbrev pub invariant-loop-below : goal.invariant-loop-below
invariant-loop-below l =
    held_from l.area l.cards l.lists (head_words l.head) l.key.value (suc l.n)
    ≡ held_from l.area l.cards l.lists (head_words l.head) l.key.value l.below
