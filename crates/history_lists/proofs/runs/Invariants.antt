-- The loop of `runs`: all runs before k are ready.
use Rattle.history_lists.specs.Pieces.{AllReady}
use Rattle.history_lists.proofs.runs.Given as goal

abbrev pub invariant-loop-k : goal.invariant-loop-k
invariant-loop-k l = AllReady l.size l.ends l.space l.stops l.room l.k
