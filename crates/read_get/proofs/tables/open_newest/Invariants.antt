-- Of the tables those that are still to be passed are left.
use Rattle.std.proofs.Common.{reverse}
use Rattle.read.specs.Shown.{ListSummed}
use Rattle.read_get.proofs.Opening.{Left}
use Rattle.read_get.proofs.tables.open_newest.Given as goal

abbrev pub invariant-loop-p : goal.invariant-loop-p
invariant-loop-p l =
    let rest = l.p-iterator.iter.rest.now in
    ListSummed l.area l.cards rest × Left l.area l.cards l.key.value (reverse l.items) (reverse rest) l.seen
