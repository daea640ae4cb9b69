-- `open_sources` meets its contract: the links, newest first, then the table itself.
use Rattle.book.specs.Rows.{shown_by}
use Rattle.read.proofs.Shows.{carded}
use Rattle.read_get.proofs.Opening.{opens-met, opens-then, opens-fit}
use Rattle.read_get.proofs.Asking.{asked-one}
use Rattle.read_get.proofs.Sources.{few-linked, few-own}
use Rattle.read_get.proofs.tables.open_sources.Goals as goal

pub returns-then-linked : goal.returns-then-linked
returns-then-linked c =
    let a = c.args in
    rw (asked-one (shown_by a.area.now a.cards.now) a.key.value a.p)
    (opens-met a.area.now a.cards.now a.key.value _ _ _ c.open_links-linked.ensures c.if-linked.true)

pub then-requires : goal.then-requires
then-requires c =
    let a = c.args in
    let g = c.requires.0.legible in
    opens-fit a.area.now a.cards.now a.key.value _ _ _ _ c.open_links-linked.ensures c.open_own.ensures
    (few-linked a.area.now a.cards.now a.key.value g a.p (carded a.area.now a.cards.now g a.p c.requires.1.tabled))
    (few-own a.area.now a.cards.now a.key.value a.p)

pub returns : goal.returns
returns c =
    let a = c.args in
    rw (asked-one (shown_by a.area.now a.cards.now) a.key.value a.p, c.then.ensures)
    (opens-then a.area.now a.cards.now a.key.value _ _ _ c.open_links-linked.ensures c.if-linked.false _ c.open_own.ensures)
