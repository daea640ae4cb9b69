-- Taking a place, over the rows of the cards and the words of the head.
use Rattle.std.specs.Prelude.{ℕ, ◌≡◌, List, [], length, set, Some}
use Rattle.ldc.specs.Store.{live}
use Rattle.ldc.specs.Place.{next_place}
use Rattle.ldc.specs.Layout.{row_with, cursor_in, cursor_word}
use Rattle.book.specs.Place.{free_at}

-- The place taken is the first free one from the cursor; its row becomes live without links, with this summary, the cursor the place after it.
pub record Takes (rows : List (List ℕ)) (head : List ℕ) (rows' : List (List ℕ)) (head' : List ℕ) (place : ℕ) (summary : List ℕ)
    : Type 0 where
  pub first : free_at (length rows) rows (cursor_in head) ≡ Some place
  pub row : rows' ≡ set rows place (row_with (live []) summary)
  pub next : head' ≡ set head cursor_word (next_place (length rows) place)
