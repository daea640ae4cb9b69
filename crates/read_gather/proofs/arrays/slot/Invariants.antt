-- The key's rank among all is its rank among the first j.
use Rattle.std.proofs.Common.{◌≡◌, take}
use Rattle.read_gather.specs.Beside.{rank}
use Rattle.read_gather.proofs.arrays.slot.Given as goal

abbrev pub invariant-loop-j : goal.invariant-loop-j
invariant-loop-j l = rank l.key (take l.n l.keys) ≡ rank l.key (take l.j l.keys)
