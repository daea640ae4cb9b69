-- The loop of `skip`: those still to be passed end where all do.
use Rattle.std.proofs.Common.{◌-◌}
use Rattle.survey_deliver.proofs.Behind.{Passed}
use Rattle.survey_deliver.proofs.skip.skip.Given as goal

abbrev pub invariant-loop : goal.invariant-loop
invariant-loop l = Passed l.list l.count l.at (l.count - l.counter)
