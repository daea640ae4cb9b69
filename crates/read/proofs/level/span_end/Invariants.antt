-- The greatest of all ends is that of `end` and the ends of the links from i on.
use Rattle.std.proofs.Common.{◌≡◌, drop}
use Rattle.ldc.specs.Store.{links, greatest_end, span_end}
use Rattle.book.specs.Rows.{shown_by}
use Rattle.read.proofs.level.span_end.Given as goal

abbrev pub invariant-loop-i : goal.invariant-loop-i
invariant-loop-i l =
    span_end (shown_by l.area l.cards) l.p ≡ greatest_end l.end.value (drop l.i (links (shown_by l.area l.cards) l.p))
