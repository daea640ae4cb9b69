-- What passed of the first i stands in front.
use Rattle.ldc.specs.Tidy.{comes_out}
use Rattle.book.specs.Head.{head_words}
use Rattle.compact_merge.specs.Merge.{store_in}
use Rattle.compact_merge.proofs.Sifts.{Sifting}
use Rattle.compact_merge.proofs.sift.sift.Given as goal

abbrev pub invariant-loop-i : goal.invariant-loop-i
invariant-loop-i l =
    Sifting (comes_out (store_in l.area l.cards l.lists (head_words l.head)) l.n) l.area l.initial.spots l.used l.spots l.kept l.i
