-- The slices of the first i links were taken in.
use Rattle.std.proofs.Common.{map, reverse, take}
use Rattle.ldc.specs.Store.{links, slice}
use Rattle.book.specs.Rows.{shown_by}
use Rattle.read_gather.specs.Sources.{ranges, TakenAll}
use Rattle.read_gather.proofs.sources.in_links.Given as goal

abbrev pub invariant-loop-i : goal.invariant-loop-i
invariant-loop-i l = TakenAll l.area
    (ranges l.low.value l.high.value (map (slice (shown_by l.area l.cards)) (reverse (take l.i (links (shown_by l.area l.cards) l.p)))))
    l.initial.keys l.initial.spots l.n l.keys l.spots l.used
