-- `rise` meets its contract. The loop's invariant: the spans of all rise if those of the tables behind the i-th rise above `end`.
use Prim.Native.Nat.{◌+◌}
use mathlib.Core.Path.{◌≡◌}
use lib.ListN.{drop}
use Rattle.ldc.specs.Rules.{spans_rise}
use Rattle.book.specs.Rows.{shown_by}
use Rattle.check_walk.specs.Spans.{rises_from}
use Rattle.check_walk.proofs.span.rise.Given as goal

abbrev pub invariant-loop-p : goal.invariant-loop-p
invariant-loop-p l = spans_rise (shown_by l.area l.cards) l.items ≡ rises_from (shown_by l.area l.cards) l.end.value (drop (l.p-index + 1) l.items)
