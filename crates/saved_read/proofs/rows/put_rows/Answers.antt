-- `put_rows` meets its contract: a turn reads the first of the cards left.
use Rattle.std.proofs.Common.{◌<◌, ◌∙◌, arith, length}
use native.Mathlib.Nat.{sub-zero}
use lib.ListN.{length-set}
use Rattle.saved_book.specs.Form.{lists_start}
use Rattle.saved_book.proofs.Forms.{form-parts}
use Rattle.saved_read.proofs.Cards.{card-next, rows-start, rows-turn}
use Rattle.saved_read.proofs.rows.put_rows.Goals as goal

pub loop-row-init : goal.loop-row-init
loop-row-init c = record {
  stand = rw (sub-zero, ← c.requires.1) (form-parts c.args.s.now c.requires.0).cards;
  left = rows-start _ _ _ _ c.requires.1;
}

pub read_row-requires : goal.read_row-requires
read_row-requires c =
    let l = c.loop-row in
    let card = (card-next c.args.s.now l.at (length l.rows) l.row-index (lists_start c.args.s.now) (omega arith) l.invariant.stand).0 in
    (card.few, card.room)

pub count_at-requires : goal.count_at-requires
count_at-requires c =
    let l = c.loop-row in
    (card-next c.args.s.now l.at (length l.rows) l.row-index (lists_start c.args.s.now) (omega arith) l.invariant.stand).0.room

pub overflow_mul-at : goal.overflow_mul-at
overflow_mul-at c =
    let l = c.loop-row in
    let card = (card-next c.args.s.now l.at (length l.rows) l.row-index (lists_start c.args.s.now) (omega arith) l.invariant.stand).0 in
    omega (arith, card.room, c.count_at.ensures)

pub overflow_add-at : goal.overflow_add-at
overflow_add-at c =
    let l = c.loop-row in
    let card = (card-next c.args.s.now l.at (length l.rows) l.row-index (lists_start c.args.s.now) (omega arith) l.invariant.stand).0 in
    omega (arith, card.room, c.count_at.ensures)

pub overflow_add-at-in-loop-row : goal.overflow_add-at-in-loop-row
overflow_add-at-in-loop-row c =
    let l = c.loop-row in
    let card = (card-next c.args.s.now l.at (length l.rows) l.row-index (lists_start c.args.s.now) (omega arith) l.invariant.stand).0 in
    omega (arith, card.room, c.count_at.ensures)

pub loop-row-preserved : goal.loop-row-preserved
loop-row-preserved c =
    let l = c.loop-row in
    let s = c.args.s.now in
    let more : l.row-index < length l.rows = omega arith in
    let next = card-next s l.at (length l.rows) l.row-index (lists_start s) more l.invariant.stand in
    record {
      stand = rw c.count_at.ensures (simp length-set next.1);
      left =
          rw (c.count_at.ensures, c.read_row.ensures)
          (simp length-set (l.invariant.left ∙ rows-turn l.rows s l.at (length l.rows) l.row-index more));
    }
