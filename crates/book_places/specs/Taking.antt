-- Taking a place, over the rows of the cards and the position.
use Rattle.std.specs.Prelude.{ℕ, ◌≡◌, List, [], length, set, Some}
use Rattle.table.specs.Table.{zeros}
use Rattle.summary.specs.Summary.{summary_words}
use Rattle.ldc.specs.Store.{live}
use Rattle.ldc.specs.Place.{next_place}
use Rattle.ldc.specs.Layout.{row_with}
use Rattle.book.specs.Place.{free_at}
use Rattle.book.specs.declared.head.Position.{Position}

-- The position with another cursor; the marks stay.
abbrev pub cursor_at : ℕ → Position → Position
cursor_at n x = record { cursor = n; flag1 = x.flag1; key1 = x.key1; flag2 = x.flag2; key2 = x.key2 }

-- The place taken is the first free one from the cursor; its row becomes live without links and summary, the cursor the place after it.
pub record TakesAt (rows : List (List ℕ)) (from : Position) (rows' : List (List ℕ)) (to : Position) (place : ℕ) : Type 0 where
  pub first : free_at (length rows) rows from.cursor ≡ Some place
  pub row : rows' ≡ set rows place (row_with (live []) (zeros summary_words))
  pub next : to ≡ cursor_at (next_place (length rows) place) from
