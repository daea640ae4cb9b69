-- `put_links` meets its contract: a turn writes the first of the links left.
use Rattle.std.proofs.Common.{◌+◌, ◌<◌, ◌≤◌, ◌++◌, sym, ◌∙◌, ap, arith, length, drop, map}
use Rattle.ldc.specs.Lists.{flat}
use Rattle.ldc.specs.Layout.{link_at}
use Rattle.book.specs.Row.{the_link, links_in}
use Rattle.book.proofs.Rows.{few}
use Rattle.saved_book.specs.Saved.{link_bytes}
use Rattle.saved_write.proofs.Widths.{length-link}
use Rattle.saved_write.proofs.Puts.{left-all, left-then, left-room, left-none}
use Rattle.saved_write.proofs.Pieces.{links-turn, links-none}
use Rattle.saved_write.proofs.cards.put_links.Goals as goal

pub loop-i-init : goal.loop-i-init
loop-i-init c = left-all _ _ _

pub link_at-requires : goal.link_at-requires
link_at-requires c = omega (arith, few c.args.row.now, c.links_held-i-end.ensures)

pub put_link-to-requires : goal.put_link-to-requires
put_link-to-requires c =
    let l = c.loop-i in
    let row = c.args.row.now in
    let near : l.i < length (links_in row) = omega (arith, c.links_held-i-end.ensures) in
    omega (arith, left-room l.invariant (link_bytes (link_at row l.i)) _ (links-turn row l.i near) c.requires, length-link (link_at row l.i))

pub loop-i-preserved : goal.loop-i-preserved
loop-i-preserved c =
    let l = c.loop-i in
    let row = c.args.row.now in
    let near : l.i < length (links_in row) = omega (arith, c.links_held-i-end.ensures) in
    let here = links-turn row l.i near ∙ ap (λ x. link_bytes x ++ flat (map link_bytes (drop (l.i + 1) (links_in row)))) (sym c.link_at.ensures) in
    left-then l.invariant (link_bytes (the_link c.link_at.result)) _ here c.put_link-to.ensures

pub returns : goal.returns
returns c =
    let l = c.loop-i in
    let row = c.args.row.now in
    let far : length (links_in row) ≤ l.i = omega (arith, c.links_held-i-end.ensures) in
    left-none l.invariant (links-none row l.i far)
