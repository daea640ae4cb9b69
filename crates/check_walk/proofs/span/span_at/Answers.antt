-- `span_at` meets its contract: the place's table and the row's links are those of the store, and the key noted is the table's greatest.
use mathlib.Core.Path.{◌∙◌}
use Rattle.ldc.specs.Store.{span_start, span_end}
use Rattle.book.specs.Rows.{links_on}
use Rattle.check_walk.proofs.ShownLaws.{links-shown, table-shown}
use Rattle.check_walk.proofs.span.span_at.Goals as goal

pub returns : goal.returns
unfolding span_start span_end links_on
returns c =
    let a = c.args in
    let table = table-shown a.area.now a.cards.now c.requires.sized a.p c.requires.below in
    let links = links-shown a.area.now a.cards.now a.p in
    let bytes = c.bytes_of.ensures.0 in
    (c.measure.ensures.0 ∙ rw (bytes, table, links), c.measure.ensures.1 ∙ rw (bytes, table, links))
