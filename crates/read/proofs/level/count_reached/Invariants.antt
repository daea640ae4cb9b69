-- The rank is from `low - 1` to `high`, since tables with a least key of at most the key stand in front, but for the last of them, whose span
-- may reach the key.
use Rattle.std.proofs.Common.{◌+◌, ◌-◌, ◌≤◌, length}
use Rattle.book.specs.Rows.{shown_by}
use Rattle.read.specs.Level.{rank}
use Rattle.read.proofs.level.count_reached.Given as goal

abbrev pub invariant-loop-low : goal.invariant-loop-low
invariant-loop-low l =
    let r = rank (shown_by l.area l.cards) l.key.value l.items in
    (l.low ≤ l.high) × (l.high ≤ length l.items) × (l.low ≤ r + 1) × (r ≤ l.high)

abbrev pub decreases-loop-low : goal.decreases-loop-low
decreases-loop-low l = l.high - l.low
