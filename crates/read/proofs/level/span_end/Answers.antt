-- `span_end` meets its contract: in a turn the greatest of the link's ends and those so far; at the end no link is left.
use Rattle.std.proofs.Common.{◌≡◌, [], max, get_or, drop, sym, ◌∙◌, arith}
use lib.ListN.{drop_of_length-le}
use Rattle.ldc.specs.Store.{Link, links, span_end}
use Rattle.ldc.specs.Layout.{link_at}
use Rattle.book.specs.Rows.{shown_by}
use Rattle.book.proofs.Rows.{no_link}
use Rattle.read.proofs.Keys.{max_value}
use Rattle.read.proofs.Shows.{table-shown, carded, links-long, link-shown, end-turn}
use Rattle.read.proofs.level.span_end.Goals as goal

pub loop-i-init : goal.loop-i-init
unfolding span_end
loop-i-init c = rw (table-shown c.args.area.now c.args.cards.now c.requires.0 c.args.p, c.greatest-end.ensures)

pub loop-i-preserved : goal.loop-i-preserved
loop-i-preserved c =
    let a = c.args in
    let l = c.loop-i in
    let g = c.requires.0 in
    let s = shown_by a.area.now a.cards.now in
    let near = carded a.area.now a.cards.now g a.p c.requires.1 in
    let d : Link = no_link in
    let this : get_or (links s a.p) l.i d ≡ link_at (get_or a.cards.now a.p []) l.i = link-shown a.area.now a.cards.now g a.p near l.i
    d (omega arith) in
    let e = this ∙ sym c.link_at-link.ensures in
    let t = rw e at (end-turn l.end.value (links s a.p) l.i d (omega (arith, links-long a.area.now a.cards.now g a.p near))) in
    let this_end : c.max.result.value ≡ max c.link_at-link.result.low.value c.link_at-link.result.high.value = rw c.max.ensures (max_value _ _) in
    let end : c.max-end.result.value ≡ max l.end.value c.max.result.value = rw c.max-end.ensures (max_value _ _) in
    l.invariant ∙ t ∙ rw (end, this_end)

pub returns : goal.returns
returns c =
    let a = c.args in
    let l = c.loop-i in
    let g = c.requires.0 in
    let s = shown_by a.area.now a.cards.now in
    let near = carded a.area.now a.cards.now g a.p c.requires.1 in
    let none : drop l.i (links s a.p) ≡ [] = drop_of_length-le (links s a.p) {i = l.i}
    (omega (arith, links-long a.area.now a.cards.now g a.p near)) in
    let inv = l.invariant in
    sym (rw none at inv)
