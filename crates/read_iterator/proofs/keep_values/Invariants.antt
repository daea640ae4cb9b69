-- Of the entries before the i-th those to be kept are in front.
use Rattle.std.proofs.Common.{◌++◌}
use Rattle.read_iterator.proofs.Sifting.{Sifting}
use Rattle.read_iterator.proofs.keep_values.Given as goal

abbrev pub invariant-loop-i : goal.invariant-loop-i
invariant-loop-i l = Sifting (l.area ++ l.memory) l.fn.keys l.fn.spots l.from l.n l.keys l.spots l.kept l.i
