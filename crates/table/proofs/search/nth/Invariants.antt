-- The loop's invariant: after so many turns that many entries are passed, and the next stands at `at`.
use Rattle.std.proofs.Common.{◌≡◌}
use Rattle.table.specs.Search.{position_in}
use Rattle.table.proofs.search.nth.Given as goal

abbrev pub invariant-loop : goal.invariant-loop
invariant-loop l = l.at ≡ position_in l.counter l.s
