-- The store that the lent pieces show, as far as area and cards say it, and what makes these legible.
use Rattle.std.specs.Prelude.{ℕ, ◌+◌, ◌*◌, ◌≤◌, ◌<◌, ◌≡◌, true, List, [], length, get_or}
use Rattle.table.specs.Limits.{place_size}
use Rattle.table.specs.Entry.{Entry}
use Rattle.table.specs.Table.{entries, is_table, place_of}
use Rattle.ldc.specs.Store.{Store}
use Rattle.ldc.specs.Lent.{Lent, row_good, sizes_good, broken}
use Rattle.ldc.specs.Rules.{spans_rise}
use Rattle.ldc.specs.Layout.{most_places, link_limit, link_count, link_at, summary_in, table_summary}
use Rattle.book.specs.Pieces.{Words, Rows}
use Rattle.book.specs.Rows.{shown_by, Wide}

-- A place within the area that holds a table.
pub record Tabled (area : List ℕ) (p : ℕ) : Type 0 where
  pub within : p * place_size + place_size ≤ length area
  pub good : is_table (place_of area p) ≡ true

-- As many cards as places; rows have no more links than there is room for, and these name tables.
pub record Legible (area : List ℕ) (cards : List (List ℕ)) : Type 0 where
  pub sized : length area ≡ length cards * place_size
  pub few : length cards ≤ most_places
  pub counted : (p : ℕ) → p < length cards → link_count (get_or cards p []) ≤ link_limit
  pub rowed : (p : ℕ) → p < length cards → row_good (get_or cards p []) ≡ true
  pub linked : (p i : ℕ) → p < length cards → i < link_count (get_or cards p []) → Tabled area (link_at (get_or cards p []) i).place

-- All items of a list name tables.
abbrev pub Listed : (area items : List ℕ) → Type 0
Listed area items = (i : ℕ) → i < length items → Tabled area (get_or items i 0)

-- A place that holds a table, with the table's summary on its card.
pub record Summed (area : List ℕ) (cards : List (List ℕ)) (p : ℕ) : Type 0 where
  pub tabled : Tabled area p
  pub summary : summary_in (get_or cards p []) ≡ table_summary (place_of area p)

-- Such are the places that links name, and the items of a list.
abbrev pub LinksSummed : (area : List ℕ) → (cards : List (List ℕ)) → Type 0
LinksSummed area cards =
    (p i : ℕ) → p < length cards → i < link_count (get_or cards p []) → Summed area cards (link_at (get_or cards p []) i).place

abbrev pub ListSummed : (area : List ℕ) → (cards : List (List ℕ)) → (items : List ℕ) → Type 0
ListSummed area cards items = (i : ℕ) → i < length items → Summed area cards (get_or items i 0)

-- The list of a level below: all its items name tables, and their spans rise.
pub record Rising (area : List ℕ) (cards : List (List ℕ)) (items : List ℕ) : Type 0 where
  pub listed : Listed area items
  pub rises : spans_rise (shown_by area cards) items ≡ true

-- Lent memory of good sizes in which no rule is broken.
pub record Kept (m : Lent) : Type 0 where
  pub sizes : sizes_good m ≡ true
  pub unbroken : broken m ≡ []

-- Kept memory whose pieces are as long as their types have it: what a request that reads may assume, and one that writes.
pub record Readable (m : Lent) : Type 0 where
  pub memory : length m.memory ≡ place_size
  pub kept : Kept m

pub record Writable (m : Lent) : Type 0 where
  pub wide : Wide m.cards
  pub memory : length m.memory ≡ place_size
  pub kept : Kept m

-- ---- the same over the parameters of a call, at its entry

-- The store that area and cards show, and the entries of a place's table.
abbrev pub shown_in : (area : Words) → (cards : Rows) → Store
shown_in area cards = shown_by area.entry.now cards.entry.now

abbrev pub table_in : (area : Words) → (p : ℕ) → List Entry
table_in area p = entries (place_of area.entry.now p)
