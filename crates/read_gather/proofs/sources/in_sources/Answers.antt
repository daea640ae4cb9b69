-- `in_sources` meets its contract: the links over the table are all sources.
use Rattle.std.proofs.Common.{sym}
use Rattle.read_gather.proofs.Steps.{both-taken, sources-ranges}
use Rattle.read_gather.proofs.sources.in_sources.Goals as goal

pub returns : goal.returns
returns c =
    let a = c.args in
    let t = c.in_table-own in
    let l = c.in_links in
    rw (sym (sources-ranges a.area.now a.cards.now c.requires.0 a.p a.low.value a.high.value))
    (both-taken a.area.now _ _ a.keys.now a.spots.now a.n t.new.keys t.new.spots t.result l.new.keys l.new.spots l.result
    t.auto.keys t.ensures l.ensures)
