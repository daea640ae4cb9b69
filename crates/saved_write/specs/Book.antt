-- The book that cards, lists, head and memory table say, and what makes it one that can be written.
use Rattle.std.specs.Prelude.{ℕ, ◌+◌, ◌*◌, ◌≤◌, ◌<◌, ◌≡◌, true, List, [], ◌∷◌, ◌++◌, map, length, get_or}
use Rattle.table.specs.Table.{entries, MemoryPlace}
use Rattle.ldc.specs.Lists.{flat}
use Rattle.ldc.specs.Store.{Store}
use Rattle.ldc.specs.Lent.{row_good}
use Rattle.ldc.specs.Layout.{most_places, level_count, card_of, threshold_in, cursor_in, length_in, marks_of, marks_good, items_in}
use Rattle.ldc.specs.Request.{key_size}
use Rattle.saved_book.specs.Saved.{saved_kind, number_size, number_bytes, mark_bytes, card_bytes, list_bytes}

-- The four level lists over so many places.
abbrev pub levels_in : (places : ℕ) → (lists head : List ℕ) → List (List ℕ)
levels_in places lists head =
    items_in places lists head 0 ∷ items_in places lists head 1 ∷ items_in places lists head 2 ∷ items_in places lists head 3 ∷ []

-- The store without its places: saving does not write these.
unfoldable pub book_of : (cards : List (List ℕ)) → (lists head memory : List ℕ) → Store
book_of cards lists head memory = record {
  threshold = threshold_in head;
  cursor = cursor_in head;
  marks = marks_of head;
  levels = levels_in (length cards) lists head;
  cards = map card_of cards;
  places = [];
  memory = entries memory;
}

-- Kind, P, T, cursor and marks.
unfoldable pub head_bytes : (places : ℕ) → (head : List ℕ) → List ℕ
head_bytes places head =
    number_bytes saved_kind ++ number_bytes places ++ number_bytes (threshold_in head) ++ number_bytes (cursor_in head)
    ++ flat (map mark_bytes (marks_of head))

-- The bytes of all cards, and of the four lists.
abbrev pub cards_bytes : List (List ℕ) → List ℕ
cards_bytes cards = flat (map card_bytes (map card_of cards))

abbrev pub lists_bytes : (places : ℕ) → (lists head : List ℕ) → List ℕ
lists_bytes places lists head = flat (map list_bytes (levels_in places lists head))

-- The bytes of a mark, and of the head.
abbrev pub mark_width : ℕ
mark_width = number_size + key_size

abbrev pub head_width : ℕ
head_width = 4 * number_size + 2 * mark_width

-- Rows whose states are of the three and whose links stand on live ones.
abbrev pub RowsGood : List (List ℕ) → Type 0
RowsGood cards = (p : ℕ) → p < length cards → row_good (get_or cards p []) ≡ true

-- Lists no longer than there are places.
abbrev pub ListsFit : (places : ℕ) → (head : List ℕ) → Type 0
ListsFit places head = (n : ℕ) → n < level_count → length_in head n ≤ places

-- A book whose bytes can be counted: of the lists only the lengths matter, and the head says these.
pub record Counted (cards : List (List ℕ)) (head memory : List ℕ) : Type 0 where
  pub few : length cards ≤ most_places
  pub lengths : ListsFit (length cards) head
  pub held : MemoryPlace memory

-- A book that can be written.
pub record Book (cards : List (List ℕ)) (lists head memory : List ℕ) : Type 0 where
  pub counted : Counted cards head memory
  pub rows : RowsGood cards
  pub sized : length lists ≡ level_count * length cards
  pub marks : marks_good head ≡ true
