-- The loop's invariant: all bytes are zero if those passed are, as `zero` says, and those from i on.
use Rattle.std.proofs.Common.{◌≡◌, drop}
use mathlib.Core.Bool.{◌&&◌}
use Rattle.table.specs.Table.{all_zero}
use Rattle.table.proofs.valid.rest_zero.Given as goal

abbrev pub invariant-loop-i : goal.invariant-loop-i
invariant-loop-i l = all_zero (drop l.from l.s) ≡ l.zero && all_zero (drop l.i l.s)
