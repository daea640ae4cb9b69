-- The next entry stands at `at`, and with those left from there on what is gathered now gives what all of the range are to give.
use Rattle.std.proofs.Common.{◌≡◌, ◌-◌}
use Rattle.table.specs.Table.{entries_at}
use Rattle.table.specs.Search.{position_in}
use Rattle.read_gather.proofs.Taken.{Left}
use Rattle.read_gather.proofs.arrays.take_in.Given as goal

abbrev pub invariant-loop : goal.invariant-loop
invariant-loop l = record {
  at : l.at ≡ position_in l.counter l.s;
  left : Left l.s l.base l.fn.low.value l.high.value l.initial.keys l.initial.spots l.n l.keys l.spots l.used
      (entries_at (l.end - l.counter) l.s l.at);
}
