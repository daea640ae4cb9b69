-- The loop of `hang_all`: all slices hung on are those of the tables from `first` on, hung on the rows as they are now.
use Rattle.std.proofs.Common.{◌≡◌, ◌≤◌, ◌-◌, length, drop}
use Rattle.table.specs.Table.{entries, place_of}
use Rattle.book.specs.Rows.{shown_by}
use Rattle.compact_link.specs.Range.{slices_from, hung_rows, Hosts}
use Rattle.compact_link.proofs.link.hang_all.Given as goal

abbrev pub invariant-loop-first : goal.invariant-loop-first
invariant-loop-first l =
    let es = entries (place_of l.area l.p) in
    (l.first ≤ length l.items) × (Hosts l.area l.cards l.from.value (drop l.first l.items)
    × (hung_rows es (slices_from (shown_by l.area l.initial.cards) es l.p 0 l.items) l.initial.cards
    ≡ hung_rows es (slices_from (shown_by l.area l.cards) es l.p l.from.value (drop l.first l.items)) l.cards))

abbrev pub decreases-loop-first : goal.decreases-loop-first
decreases-loop-first l = length l.items - l.first
