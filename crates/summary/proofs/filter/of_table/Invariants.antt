-- The loop's invariant: the summary of all keys is what those of the entries left, which begin at `at`, make of the bits set so far.
use Rattle.std.proofs.Common.{◌≡◌, ◌-◌}
use Rattle.table.specs.Table.{count_of, entries, entries_at}
use Rattle.table.specs.Search.{position_in}
use Rattle.summary.specs.Summary.{with_keys, summary_of, keys_of}
use Rattle.summary.proofs.filter.of_table.Given as goal

abbrev pub invariant-loop : goal.invariant-loop
invariant-loop l = record {
  place : l.at ≡ position_in l.counter l.table;
  filled : summary_of (keys_of (entries l.table)) ≡ with_keys (keys_of (entries_at (count_of l.table - l.counter) l.table l.at)) l.s;
}
