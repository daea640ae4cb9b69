-- `cards_length` meets its contract: a turn counts the first of the cards left.
use Rattle.std.proofs.Common.{[], arith, ap, length, get_or}
use Rattle.book.proofs.Rows.{few}
use Rattle.saved_write.proofs.Pieces.{cards-long, cards-none}
use Rattle.saved_write.proofs.lengths.cards_length.Goals as goal

pub overflow_mul-n : goal.overflow_mul-n
overflow_mul-n c = omega (arith, c.links_held.ensures, few (get_or c.args.cards.now c.loop-row.row-index []))

pub overflow_add-n : goal.overflow_add-n
overflow_add-n c = omega (arith, c.links_held.ensures, few (get_or c.args.cards.now c.loop-row.row-index []))

pub overflow_add-n-in-loop-row : goal.overflow_add-n-in-loop-row
overflow_add-n-in-loop-row c = omega (arith, c.links_held.ensures, few (get_or c.args.cards.now c.loop-row.row-index []))

pub loop-row-preserved : goal.loop-row-preserved
loop-row-preserved c =
    let l = c.loop-row in
    let cards = c.args.cards.now in
    let n = c.links_held.ensures in
    let k = few (get_or cards l.row-index []) in
    record { few = omega arith; counted = omega (arith, cards-long cards l.row-index c.loop-row-test.true) }

pub returns : goal.returns
returns c =
    let l = c.loop-row in
    let none = cards-none c.args.cards.now l.row-index c.loop-row-test.false in
    (omega (arith, ap length none), omega arith)
