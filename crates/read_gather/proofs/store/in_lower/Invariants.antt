-- The levels from k on were taken in.
use Rattle.std.proofs.Common.{◌-◌, ◌≤◌}
use Rattle.ldc.specs.Layout.{level_count}
use Rattle.book.specs.Head.{head_words}
use Rattle.read_gather.specs.Sources.{ranges, TakenAll}
use Rattle.read_gather.specs.Order.{levels_from}
use Rattle.read_gather.proofs.store.in_lower.Given as goal

abbrev pub invariant-loop-k : goal.invariant-loop-k
invariant-loop-k l = record {
  some : 1 ≤ l.k;
  taken : TakenAll l.area (ranges l.low.value l.high.value (levels_from l.area l.cards l.lists (head_words l.head) (level_count - l.k) l.k))
      l.initial.keys l.initial.spots l.n l.keys l.spots l.used;
}
