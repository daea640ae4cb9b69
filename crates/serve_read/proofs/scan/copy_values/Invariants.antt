-- The entries at the spots passed are written.
use Rattle.std.proofs.Common.{◌+◌, ◌*◌, ◌≤◌, ◌++◌, map, take}
use Rattle.table.specs.Limits.{entry_limit}
use Rattle.table.specs.Entry.{entry_at}
use Rattle.serve_read.specs.Scan.{Fills}
use Rattle.serve_read.proofs.scan.copy_values.Given as goal

abbrev pub invariant-loop-at : goal.invariant-loop-at
invariant-loop-at l =
    (l.end ≤ l.start + entry_limit * l.at-index)
    × Fills (take l.at-index (map (entry_at (l.area ++ l.memory)) l.at-items)) l.start l.fn.answer l.answer l.end
