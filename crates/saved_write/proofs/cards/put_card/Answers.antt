-- `put_card` meets its contract: the words of a good row are state and count of its card.
use native.Mathlib.Omega.{arith}
use Rattle.ldc.specs.Layout.{card_of}
use Rattle.book.specs.Row.{links_in}
use Rattle.saved_write.proofs.Widths.{length-links, length-card}
use Rattle.saved_write.proofs.Puts.{put_then, put_as}
use Rattle.saved_write.proofs.Pieces.{card-put}
use Rattle.saved_write.proofs.cards.put_card.Goals as goal

pub put_number-state_end-requires : goal.put_number-state_end-requires
put_number-state_end-requires c =
    omega (arith, length-card (card_of c.args.row.now))

pub put_number-count_end-requires : goal.put_number-count_end-requires
put_number-count_end-requires c =
    omega (arith, length-card (card_of c.args.row.now))

pub put_links-requires : goal.put_links-requires
unfolding links_in
put_links-requires c =
    let row = c.args.row.now in
    omega (arith, c.requires.1, length-card (card_of row), length-links (links_in row))

pub returns : goal.returns
returns c =
    put_as (put_then (put_then c.put_number-state_end.ensures.0 c.put_number-count_end.ensures.0) c.put_links.ensures)
    (card-put c.args.row.now c.requires.0 c.state.ensures c.links_held.ensures)
