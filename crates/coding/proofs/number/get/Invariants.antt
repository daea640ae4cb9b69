-- The loop goes from the highest byte down. Its invariant: `n` is the number in the bytes passed.
use Rattle.std.proofs.Common.{◌≡◌, ◌+◌, ◌-◌}
use Rattle.coding.specs.Number.{number_at}
use Rattle.coding.proofs.number.get.Given as goal

abbrev pub invariant-loop-i : goal.invariant-loop-i
invariant-loop-i l = l.n ≡ number_at (l.width - l.i) l.s (l.at + l.i)
