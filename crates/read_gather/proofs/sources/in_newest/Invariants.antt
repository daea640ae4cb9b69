-- The tables so far were taken in.
use Rattle.std.proofs.Common.{map, reverse, take}
use Rattle.read_gather.specs.Sources.{ranges, TakenAll}
use Rattle.read_gather.proofs.Steps.{table_at}
use Rattle.read_gather.proofs.sources.in_newest.Given as goal

abbrev pub invariant-loop-p : goal.invariant-loop-p
invariant-loop-p l = TakenAll l.area (ranges l.low.value l.high.value (map (table_at l.area) (reverse (take l.p-index l.items))))
    l.initial.keys l.initial.spots l.n l.keys l.spots l.used
