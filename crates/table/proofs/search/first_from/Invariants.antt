-- The loop's invariant: those below the key are as many as the index says and those of the entries from there on, which stand at `at`.
use Rattle.std.proofs.Common.{◌≡◌, ◌+◌, ◌-◌}
use Rattle.table.specs.Table.{entries, entries_at}
use Rattle.table.specs.Search.{count_below, position_in}
use Rattle.table.proofs.search.first_from.Given as goal

abbrev pub invariant-loop-index : goal.invariant-loop-index
invariant-loop-index l = record {
  place : l.at ≡ position_in l.index l.s;
  passed : count_below l.key.value (entries l.s) ≡ l.index + count_below l.key.value (entries_at (l.n - l.index) l.s l.at);
}
