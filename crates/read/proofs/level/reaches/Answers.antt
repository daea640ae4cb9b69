-- `reaches` meets its contract: a link that ends below the key does not decide, one that does not, does; at the end no link is left.
use Rattle.std.proofs.Common.{◌≡◌, ◌<◌, max, leb, [], length, get_or, drop, sym, ◌∙◌, ap, arith}
use lib.ListN.{drop_of_length-le}
use Rattle.coding.proofs.KeyLaws.{le_test, le_holds, le_fails}
use Rattle.table.specs.Table.{entries, place_of}
use Rattle.table.specs.Search.{greatest_key}
use Rattle.ldc.specs.Store.{links, span_end}
use Rattle.book.specs.Row.{the_link}
use Rattle.book.specs.Rows.{shown_by}
use Rattle.book.proofs.Rows.{no_link}
use Rattle.read.proofs.Keys.{max_value}
use Rattle.read.proofs.Shows.{table-shown, carded, links-long, link-shown, reach-turn, reach_here}
use Rattle.read.proofs.level.reaches.Goals as goal
use Rattle.read.proofs.level.reaches.Goals.{After-link_at-link}

pub loop-i-init : goal.loop-i-init
unfolding span_end
loop-i-init c = rw (table-shown c.args.area.now c.args.cards.now c.requires.0 c.args.p)

-- The link of the turn.
within : (c : After-link_at-link) → let a = c.args in c.loop-i.i < length (links (shown_by a.area.now a.cards.now) a.p)
within c =
    let a = c.args in
    omega (arith, links-long a.area.now a.cards.now c.requires.0 a.p (carded a.area.now a.cards.now c.requires.0 a.p c.requires.1))

this : (c : After-link_at-link) → let a = c.args in get_or (links (shown_by a.area.now a.cards.now) a.p) c.loop-i.i no_link
    ≡ the_link c.link_at-link.result
this c =
    let a = c.args in
    link-shown a.area.now a.cards.now c.requires.0 a.p (carded a.area.now a.cards.now c.requires.0 a.p c.requires.1) c.loop-i.i no_link (omega arith)
    ∙ sym c.link_at-link.ensures

pub returns-then-le : goal.returns-then-le
returns-then-le c =
    let b = (goal.at.returns-then-le c).After-link_at-link in
    let a = c.args in
    let l = c.loop-i in
    let end : c.max.result.value ≡ max c.link_at-link.result.low.value c.link_at-link.result.high.value = rw c.max.ensures (max_value _ _) in
    sym (l.invariant ∙ reach_here a.key.value (greatest_key (entries (place_of a.area.now a.p))) (links (shown_by a.area.now a.cards.now) a.p) l.i
    no_link (within b)
    (rw (this b, ← end) (le_holds _ _ c.if-le.ensures)))

pub loop-i-preserved : goal.loop-i-preserved
loop-i-preserved c =
    let b = (goal.at.loop-i-preserved c).After-link_at-link in
    let a = c.args in
    let l = c.loop-i in
    let end : c.max.result.value ≡ max c.link_at-link.result.low.value c.link_at-link.result.high.value = rw c.max.ensures (max_value _ _) in
    l.invariant ∙ reach-turn a.key.value (greatest_key (entries (place_of a.area.now a.p))) (links (shown_by a.area.now a.cards.now) a.p) l.i
    no_link (within b)
    (rw (this b, ← end) (le_fails _ _ c.if-le.ensures))

pub returns : goal.returns
returns c =
    let a = c.args in
    let l = c.loop-i in
    let g = c.requires.0 in
    let s = shown_by a.area.now a.cards.now in
    let near = carded a.area.now a.cards.now g a.p c.requires.1 in
    let none : drop l.i (links s a.p) ≡ [] = drop_of_length-le (links s a.p) {i = l.i}
    (omega (arith, links-long a.area.now a.cards.now g a.p near)) in
    let inv = l.invariant in
    c.le-2.ensures ∙ le_test _ _ ∙ ap (leb a.key.value) c.greatest.ensures ∙ sym (rw none at inv)
