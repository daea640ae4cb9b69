-- `sum_place` meets its contract, by cases of whether the place is free and holds a table.
use Rattle.std.proofs.Common.{sym, ◌∙◌, rules}
use Rattle.table.specs.Table.{zeros}
use Rattle.table.proofs.Position.{table-memory}
use Rattle.ldc.specs.Layout.{table_summary}
use Rattle.saved_read.proofs.Sums.{fresh-free, fresh-none, fresh-table}
use Rattle.saved_read.proofs.summaries.sum_place.Goals as goal

pub returns-then-is_free : goal.returns-then-is_free
unfolding zeros
returns-then-is_free c = fresh-free _ _ (cc)

pub returns-then-is_none : goal.returns-then-is_none
unfolding zeros
returns-then-is_none c = fresh-none _ _ (cc) (sym c.judge.ensures.good ∙ c.if-is_none.ensures)

pub of_table-requires : goal.of_table-requires
of_table-requires c = (search rules, table-memory _ (sym c.judge.ensures.good ∙ c.if-is_none.ensures))

pub returns : goal.returns
unfolding table_summary
returns c = rw c.of_table.ensures (fresh-table _ _ (cc) (sym c.judge.ensures.good ∙ c.if-is_none.ensures))
