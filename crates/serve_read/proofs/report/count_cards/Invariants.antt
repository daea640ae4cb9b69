-- Each count of all rows is what is counted and the count of the rows that are still to come.
use Rattle.std.proofs.Common.{◌≡◌, ◌+◌, ◌*◌, ◌≤◌, drop}
use Rattle.serve_read.specs.Tally.{free_in, frozen_in, links_counted}
use Rattle.serve_read.proofs.report.count_cards.Given as goal

abbrev pub invariant-loop-row : goal.invariant-loop-row
invariant-loop-row l =
    let i = l.row-index in
    let rest = drop i l.cards in
    (l.free ≤ i) × (l.frozen ≤ i) × (l.links ≤ 8 * i)
    × (free_in l.cards ≡ l.free + free_in rest) × (frozen_in l.cards ≡ l.frozen + frozen_in rest)
    × (links_counted l.cards ≡ l.links + links_counted rest)
