-- The book of kept memory can be written, and its bytes are those of the store.
use mathlib.Core.Path.{◌≡◌}
use native.Mathlib.Omega.{arith}
use lib.ListN.{length}
use Rattle.table.specs.Limits.{place_size}
use Rattle.table.proofs.Tests.{and_parts}
use Rattle.ldc.specs.Store.{size}
use Rattle.ldc.specs.Lent.{Lent, level_of, store_of, unused_zero}
use Rattle.ldc.specs.Layout.{marks_good}
use Rattle.ldc.proofs.Lent.Rules.{unbroken}
use Rattle.ldc.proofs.Lent.Shows.{sizes}
use Rattle.read.specs.Shown.{Kept}
use Rattle.read.proofs.Pieces.{length-fits, row-good}
use Rattle.saved_book.specs.Saved.{field_bytes, saved_bytes}
use Rattle.saved_write.specs.Book.{book_of, Book}

module _ (m : Lent) (k : Kept m) where
  pub book-kept : length m.memory ≡ place_size → Book m.cards m.lists m.head m.memory
  unfolding unused_zero
  book-kept long =
      let u = unbroken m k.unbroken in
      let z = sizes m k.sizes in
      record {
        counted = record { few = omega arith; lengths = λ n h. rw z.cards (length-fits m k n h); held = (long, u.memory) };
        rows = row-good m k;
        sized = rw z.cards z.lists;
        marks = (and_parts (marks_good m.head) _ u.unused).0;
      }

  pub book-saved : saved_bytes (book_of m.cards m.lists m.head m.memory) ≡ saved_bytes (store_of m)
  unfolding saved_bytes field_bytes book_of store_of level_of size
  book-saved = rw (sizes m k.sizes).cards
