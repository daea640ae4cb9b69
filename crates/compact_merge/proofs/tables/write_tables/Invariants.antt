-- So many tables are written, and what is left makes the others.
use Rattle.compact_merge.specs.Spots.{standing}
use Rattle.compact_merge.proofs.Written.{Writing}
use Rattle.compact_merge.proofs.tables.write_tables.Given as goal

abbrev pub invariant-loop-k : goal.invariant-loop-k
invariant-loop-k l = Writing (standing l.area l.spots l.n) l.initial.out l.out l.k
