-- The bytes of all cards are those counted and those of the cards from this row's on, and each has no more than there is room for.
use Rattle.std.proofs.Common.{◌≡◌, ◌+◌, ◌*◌, ◌≤◌, length, drop}
use Rattle.ldc.specs.Layout.{link_limit}
use Rattle.saved_book.specs.Form.{card_head, link_width}
use Rattle.saved_write.specs.Book.{cards_bytes}
use Rattle.saved_write.proofs.lengths.cards_length.Given as goal

abbrev pub invariant-loop-row : goal.invariant-loop-row
invariant-loop-row l = record {
  few : l.n ≤ (card_head + link_width * link_limit) * l.row-index;
  counted : length (cards_bytes l.cards) ≡ l.n + length (cards_bytes (drop l.row-index l.cards));
}
