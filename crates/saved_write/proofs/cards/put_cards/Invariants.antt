-- The cards from this row's on are left to write.
use Rattle.std.proofs.Common.{drop}
use Rattle.saved_write.specs.Book.{cards_bytes}
use Rattle.saved_write.proofs.Puts.{Left}
use Rattle.saved_write.proofs.cards.put_cards.Given as goal

abbrev pub invariant-loop-row : goal.invariant-loop-row
invariant-loop-row l = Left l.fn.out l.at (cards_bytes l.cards) l.out l.to (cards_bytes (drop l.row-index l.cards))
