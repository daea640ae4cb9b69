-- Of the links' tables those of the first i links are left.
use Rattle.std.proofs.Common.{reverse, take}
use Rattle.ldc.specs.Store.{links}
use Rattle.book.specs.Rows.{shown_by}
use Rattle.read_get.specs.Opens.{ranges}
use Rattle.read_get.proofs.Opening.{Left}
use Rattle.read_get.proofs.tables.open_links.Given as goal

abbrev pub invariant-loop-i : goal.invariant-loop-i
invariant-loop-i l =
    let ls = links (shown_by l.area l.cards) l.p in
    Left l.area l.cards l.key.value (ranges l.key.value (reverse ls)) (ranges l.key.value (reverse (take l.i ls))) l.seen
