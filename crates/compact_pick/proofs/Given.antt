-- Kept memory shows the store that the plan is made for. Piece by piece, by the laws of `book` and `read`.
use mathlib.Core.Path.{ap}
use Rattle.table.specs.Table.{entries}
use Rattle.ldc.specs.Store.{table}
use Rattle.ldc.specs.Lent.{Lent, store_of}
use Rattle.ldc.proofs.Lent.Shows.{sizes}
use Rattle.book.specs.Row.{links_in}
use Rattle.book.specs.Rows.{links_on}
use Rattle.book.proofs.Heads.{shown-threshold, shown-mark}
use Rattle.read.specs.Shown.{Kept}
use Rattle.read.proofs.Pieces.{bytes-shown, links-shown, level-items}
use Rattle.compact_pick.specs.Due.{Booked, ToldBy}

module _ (m : Lent) (k : Kept m) where
  booked : Booked (store_of m) m.cards m.lists m.head
  booked = record {
    linked = λ p. unfold links_on links_in in links-shown m p;
    levels = level-items m k;
    marks = shown-mark m;
    threshold = shown-threshold m;
  }

  pub told : ToldBy (store_of m) m
  told = record { reads = λ p. unfold table in ap entries (bytes-shown m (sizes m k.sizes).area p); booked = booked }
