-- The loop's invariant: the entries are good if those from the i-th on are, which start at `at`, and the greatest key is the last of
-- theirs, or `last` where none is left. Each entry before had at most `entry_limit` bytes, so all of them stay within the place.
use Rattle.std.proofs.Common.{◌≡◌, ◌+◌, ◌*◌, ◌-◌, ◌≤◌}
use Rattle.table.specs.Limits.{entry_limit, table_head}
use Rattle.table.specs.Table.{entries_at, entries_good}
use Rattle.table.specs.Search.{greatest_key}
use Rattle.table.proofs.Turn.{least_after, last_after}
use Rattle.table.proofs.valid.judge_entries.Given as goal

abbrev pub invariant-loop-i : goal.invariant-loop-i
invariant-loop-i l = record {
  near : l.at ≤ table_head + entry_limit * l.i;
  good : entries_good l.n l.s table_head 0 l.end ≡ entries_good (l.n - l.i) l.s l.at (least_after l.i l.last.value) l.end;
  most : greatest_key (entries_at l.n l.s table_head) ≡ last_after l.last.value (entries_at (l.n - l.i) l.s l.at);
}
