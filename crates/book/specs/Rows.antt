-- The rows of all cards, and the area beside them.
use Rattle.std.specs.Prelude.{ℕ, ◌*◌, ◌≤◌, ◌<◌, ◌≡◌, List, [], Bool, length, get_or}
use Rattle.table.specs.Limits.{place_size}
use Rattle.table.specs.Table.{is_table, place_of}
use Rattle.ldc.specs.Lists.{all}
use Rattle.ldc.specs.Store.{Link, Store}
use Rattle.ldc.specs.Lent.{store_of}
use Rattle.ldc.specs.Layout.{row_size, most_places}
use Rattle.book.specs.Row.{links_in}
use Rattle.book.specs.Pieces.{lent}

-- Do these places hold tables?
unfoldable pub tabled : (area items : List ℕ) → Bool
tabled area items = all (λ p. is_table (place_of area p)) items

-- The links on the card of a place.
unfoldable pub links_on : List (List ℕ) → (p : ℕ) → List Link
links_on cards p = links_in (get_or cards p [])

-- Rows of as many words as their type has.
abbrev pub Wide : List (List ℕ) → Type 0
Wide rows = (p : ℕ) → p < length rows → length (get_or rows p []) ≡ row_size

-- An area with a card for each place.
pub record Sized (area : List ℕ) (cards : List (List ℕ)) : Type 0 where
  pub whole : length area ≡ length cards * place_size
  pub most : length cards ≤ most_places

-- The store that area and cards show by themselves, with nothing listed: all that links, tables and spans are read from.
abbrev pub shown_by : (area : List ℕ) → (cards : List (List ℕ)) → Store
shown_by area cards = store_of (lent area cards [] [] [])
