-- At least k are free if as many as are left are free from here on.
use Rattle.std.proofs.Common.{◌≡◌, leb, drop}
use Rattle.book.specs.Place.{free_rows}
use Rattle.book_places.proofs.free.free_at_least.Given as goal

abbrev pub invariant-loop-row : goal.invariant-loop-row
invariant-loop-row l = leb l.k (free_rows l.cards) ≡ leb l.left (free_rows (drop l.row-index l.cards))
