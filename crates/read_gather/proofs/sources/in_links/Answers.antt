-- `in_links` meets its contract: one link more is taken in behind those before it, and at the end they are all.
use Rattle.std.proofs.Common.{◌≡◌, min, max, sym}
use Rattle.table.proofs.Room.{below-same}
use Rattle.book.specs.Row.{the_link}
use Rattle.read.proofs.Keys.{min_value, max_value}
use Rattle.read_gather.proofs.Steps.{both-taken, sliced-all, sliced-turn}
use Rattle.read_gather.proofs.sources.in_links.Goals as goal

pub loop-i-preserved : goal.loop-i-preserved
loop-i-preserved c =
    let a = c.args in
    let l = c.loop-i in
    let w = c.link_at-link in
    let from : c.max-from.result.value ≡ max a.low.value w.result.low.value = rw c.max-from.ensures (max_value _ _) in
    let to : c.min-to.result.value ≡ min a.high.value w.result.high.value = rw c.min-to.ensures (min_value _ _) in
    let few = below-same _ _ _ c.loop-i-test.true c.link_count-i-end.ensures in
    let t = sliced-turn a.area.now a.cards.now c.requires.0 a.p c.requires.1.0 a.low.value a.high.value l.i (the_link w.result) few w.ensures in
    let taken = rw (from, to) at c.in_table-used.ensures in
    rw t (both-taken a.area.now _ _ a.keys.now a.spots.now a.n l.keys l.spots l.used _ _ _ l.auto.keys l.invariant taken)

pub returns : goal.returns
returns c =
    let a = c.args in
    let l = c.loop-i in
    rw (sym (sliced-all a.area.now a.cards.now c.requires.0 a.p c.requires.1.0 a.low.value a.high.value l.i _
    c.link_count-i-end.ensures l.auto.i-end c.loop-i-test.false))
    l.invariant
