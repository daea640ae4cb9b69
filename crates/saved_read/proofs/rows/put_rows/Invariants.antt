-- The cards left stand in turn, and the rows are what is written with those of the cards left, from this one's on.
use Rattle.std.proofs.Common.{◌≡◌, ◌-◌, length}
use Rattle.std.proofs.Math.Option.{some}
use lib.Seq.{sets}
use Rattle.saved_book.specs.Form.{places_saved, cards_start, card_to, in_turn, lists_start}
use Rattle.saved_book.specs.Opened.{rows_saved}
use Rattle.saved_read.proofs.rows.put_rows.Given as goal

abbrev pub invariant-loop-row : goal.invariant-loop-row
invariant-loop-row l = record {
  stand : in_turn (length l.rows - l.row-index) (card_to l.s) l.at ≡ some (lists_start l.s);
  left : rows_saved (places_saved l.s) l.s cards_start ≡ sets l.rows l.row-index (rows_saved (length l.rows - l.row-index) l.s l.at);
}
