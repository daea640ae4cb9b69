-- Those in the range are the entries from its low end on that are not above its high end. The loop's invariant: these are the ones passed
-- since then, and those of the entries from the i-th on, which stands at `at`.
use Rattle.std.proofs.Common.{suc, ◌≡◌, ◌+◌, ◌-◌}
use Rattle.table.specs.Table.{entries_at}
use Rattle.table.specs.Search.{count_below, position_in}
use Rattle.table.proofs.search.count_within.Given as goal

abbrev pub invariant-loop-i : goal.invariant-loop-i
invariant-loop-i l = record {
  place : l.at ≡ position_in l.i l.s;
  passed : l.first.index + count_below (suc l.high.value) (entries_at (l.n - l.first.index) l.s l.first.at)
      ≡ l.i + count_below (suc l.high.value) (entries_at (l.n - l.i) l.s l.at);
}
