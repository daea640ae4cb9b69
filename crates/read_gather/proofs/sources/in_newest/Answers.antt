-- `in_newest` meets its contract: one table more is taken in behind those before it, and at the end they are all.
use Rattle.std.proofs.Common.{sym}
use Rattle.read_gather.proofs.Steps.{both-taken, tabled-all, tabled-turn}
use Rattle.read_gather.proofs.sources.in_newest.Goals as goal

pub loop-p-preserved : goal.loop-p-preserved
loop-p-preserved c =
    let a = c.args in
    let l = c.loop-p in
    let t = tabled-turn a.area.now a.items.now a.low.value a.high.value l.p-index c.loop-p-test.true in
    let taken = rw c.from.ensures at c.in_table-used.ensures in
    rw t (both-taken a.area.now _ _ a.keys.now a.spots.now a.n l.keys l.spots l.used _ _ _ l.auto.keys l.invariant taken)

pub returns : goal.returns
returns c =
    let a = c.args in
    let l = c.loop-p in
    rw (sym (tabled-all a.area.now a.items.now a.low.value a.high.value l.p-index c.loop-p-test.false)) l.invariant
