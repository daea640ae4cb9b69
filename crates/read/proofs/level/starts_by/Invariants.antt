-- Whether the span starts by the key is decided by the own keys and the links from i on.
use Rattle.std.proofs.Common.{◌≡◌, leb, drop}
use Rattle.table.specs.Table.{entries, place_of}
use Rattle.table.specs.Search.{least_key}
use Rattle.ldc.specs.Store.{links, least_end, span_start}
use Rattle.book.specs.Rows.{shown_by}
use Rattle.read.proofs.level.starts_by.Given as goal

abbrev pub invariant-loop-i : goal.invariant-loop-i
invariant-loop-i l =
    leb (span_start (shown_by l.area l.cards) l.p) l.key.value
    ≡ leb (least_end (least_key (entries (place_of l.area l.p))) (drop l.i (links (shown_by l.area l.cards) l.p))) l.key.value
