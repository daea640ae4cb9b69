-- `sum_rows` meets its contract: a turn writes the first of the summaries left.
use Rattle.std.proofs.Common.{◌<◌, sym, ◌∙◌, arith, length}
use Rattle.saved_read.proofs.Sums.{places_of, length-places, place_at, sum-start, sum-turn}
use Rattle.saved_read.proofs.summaries.sum_rows.Goals as goal

pub loop-p-init : goal.loop-p-init
loop-p-init c = sum-start c.args.rows.now (places_of c.args.area.now)

pub loop-p-preserved : goal.loop-p-preserved
loop-p-preserved c =
    let l = c.loop-p in
    let area = c.args.area.now in
    let rows = c.args.rows.now in
    let near : l.p < length l.rows = omega arith in
    let first : l.p < length rows = omega arith in
    let sized = c.requires.whole in
    let here = c.bytes_of.ensures.0 ∙ sym (place_at area rows sized l.p first) in
    let words = rw here at c.sum_place-words.ensures in
    let turn = sum-turn l.rows (places_of area) l.p _ near (rw (length-places area rows sized) first) words in
    rw c.set_summary.ensures (l.invariant ∙ turn)
