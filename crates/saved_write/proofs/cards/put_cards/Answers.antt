-- `put_cards` meets its contract: a turn writes the first of the cards left.
use Rattle.std.proofs.Common.{[], get_or}
use Rattle.ldc.specs.Layout.{card_of}
use Rattle.saved_book.specs.Saved.{card_bytes}
use Rattle.saved_write.proofs.Puts.{left-all, left-then, left-room, left-none}
use Rattle.saved_write.proofs.Pieces.{cards-turn, cards-none}
use Rattle.saved_write.proofs.cards.put_cards.Goals as goal

pub loop-row-init : goal.loop-row-init
loop-row-init c = left-all _ _ _

pub put_card-to-requires : goal.put_card-to-requires
put_card-to-requires c =
    let l = c.loop-row in
    let cards = c.args.cards.now in
    let near = c.loop-row-test.true in
    let bytes = card_bytes (card_of (get_or cards l.row-index [])) in
    (c.requires.0 l.row-index near, left-room l.invariant bytes _ (cards-turn cards l.row-index near) c.requires.1)

pub loop-row-preserved : goal.loop-row-preserved
loop-row-preserved c =
    let l = c.loop-row in
    let cards = c.args.cards.now in
    let bytes = card_bytes (card_of (get_or cards l.row-index [])) in
    left-then l.invariant bytes _ (cards-turn cards l.row-index c.loop-row-test.true) c.put_card-to.ensures

pub returns : goal.returns
returns c =
    let l = c.loop-row in
    left-none l.invariant (cards-none c.args.cards.now l.row-index c.loop-row-test.false)
