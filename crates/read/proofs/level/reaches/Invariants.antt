-- Whether the span reaches the key is decided by the own keys and the links from i on.
use Rattle.std.proofs.Common.{◌≡◌, leb, drop}
use Rattle.table.specs.Table.{entries, place_of}
use Rattle.table.specs.Search.{greatest_key}
use Rattle.ldc.specs.Store.{links, greatest_end, span_end}
use Rattle.book.specs.Rows.{shown_by}
use Rattle.read.proofs.level.reaches.Given as goal

abbrev pub invariant-loop-i : goal.invariant-loop-i
invariant-loop-i l =
    leb l.key.value (span_end (shown_by l.area l.cards) l.p)
    ≡ leb l.key.value (greatest_end (greatest_key (entries (place_of l.area l.p))) (drop l.i (links (shown_by l.area l.cards) l.p)))
