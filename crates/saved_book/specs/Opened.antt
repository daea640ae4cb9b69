-- What saved bytes show over an area (document 02, note 4): the lent memory of the store as opened. The area may have more places than were
-- saved; the added ones are free. The summaries on the cards are not saved: they are worked out afresh from the places (note 6).
use Rattle.std.specs.Prelude.{ℕ, zero, suc, ◌+◌, ◌*◌, ◌-◌, List, [], ◌∷◌, ◌++◌, map, cond, not, ◌&&◌, length, replicate}
use Rattle.std.proofs.lemmas.List.Edits.{sets}
use Rattle.coding.specs.Number.{number_at}
use Rattle.table.specs.Table.{zeros, entries_at, table_bytes, is_table}
use Rattle.summary.specs.Summary.{summary_words}
use Rattle.ldc.specs.Lists.{flat}
use Rattle.ldc.specs.Store.{Link, free, Store, size, is_free}
use Rattle.ldc.specs.Layout.{link_size, link_limit, level_count, link_words, card_of, summary_start, table_summary, row_with}
use Rattle.ldc.specs.Lent.{Lent, places_in, chop}
use Rattle.saved_book.specs.Form.{places_saved, threshold_saved, cursor_saved, flag_saved1, key_saved1, flag_saved2, key_saved2}
use Rattle.saved_book.specs.Form.{cards_start, card_head, link_width, count_saved, card_end, list_end, lists_start, memory_start}

-- ---- cards

-- The link at a position: place, low, high and number.
abbrev pub link_saved : List ℕ → (at : ℕ) → Link
link_saved s at =
    record { place = number_at 2 s at; low = number_at 8 s (at + 2); high = number_at 8 s (at + 10); number = number_at 2 s (at + 18) }

abbrev pub links_saved : (n : ℕ) → List ℕ → (at : ℕ) → List Link
links_saved zero s at = []
links_saved (suc n) s at = link_saved s at ∷ links_saved n s (at + link_width)

-- The row of the card at a position: state and link count as they are saved, then the links; words not in use are zero, and so is the summary.
unfoldable pub row_saved : List ℕ → (at : ℕ) → List ℕ
row_saved s at =
    number_at 2 s at ∷ count_saved s at
    ∷ link_words (links_saved (count_saved s at) s (at + card_head))
    ++ (zeros (link_size * link_limit - link_size * count_saved s at) ++ zeros summary_words)

abbrev pub rows_saved : (n : ℕ) → List ℕ → (at : ℕ) → List (List ℕ)
rows_saved zero s at = []
rows_saved (suc n) s at = row_saved s at ∷ rows_saved n s (card_end s at)

-- The rows of so many places: those saved, and the added ones, which are free.
unfoldable pub opened_rows : (places : ℕ) → List ℕ → List (List ℕ)
opened_rows places s = rows_saved (places_saved s) s cards_start ++ replicate (places - places_saved s) (row_with free (zeros summary_words))

-- ---- summaries

-- The summary worked out afresh, of a row and the bytes of its place: that of the table of a live or frozen place, else zeros.
unfoldable pub fresh_summary : (row bytes : List ℕ) → List ℕ
fresh_summary row bytes = cond (not (is_free (card_of row)) && is_table bytes) (table_summary bytes) (zeros summary_words)

-- The row with it written in its place, and all rows, each over its own place.
unfoldable pub summed : (row bytes : List ℕ) → List ℕ
summed row bytes = sets row summary_start (fresh_summary row bytes)

abbrev pub summed_rows : (rows places : List (List ℕ)) → List (List ℕ)
summed_rows [] places = []
summed_rows (row ∷ rows) [] = summed row [] ∷ summed_rows rows []
summed_rows (row ∷ rows) (bytes ∷ places) = summed row bytes ∷ summed_rows rows places

-- ---- lists and memory entries

abbrev pub items_saved : (n : ℕ) → List ℕ → (at : ℕ) → List ℕ
items_saved zero s at = []
items_saved (suc n) s at = number_at 2 s at ∷ items_saved n s (at + 2)

-- So many lists, each after its count.
abbrev pub lists_saved : (n : ℕ) → List ℕ → (at : ℕ) → List (List ℕ)
lists_saved zero s at = []
lists_saved (suc n) s at = items_saved (number_at 2 s at) s (at + 2) ∷ lists_saved n s (list_end s at)

unfoldable pub levels_saved : List ℕ → List (List ℕ)
levels_saved s = lists_saved level_count s (lists_start s)

-- The four lists over so many places; items not in use are zero.
unfoldable pub opened_lists : (places : ℕ) → List ℕ → List ℕ
opened_lists places s = flat (map (λ ps. ps ++ zeros (places - length ps)) (levels_saved s))

unfoldable pub opened_head : List ℕ → List ℕ
opened_head s =
    threshold_saved s ∷ cursor_saved s ∷ flag_saved1 s ∷ key_saved1 s ∷ flag_saved2 s ∷ key_saved2 s
    ∷ map (λ ps. length ps) (levels_saved s)

unfoldable pub opened_memory : List ℕ → List ℕ
opened_memory s = table_bytes (entries_at (number_at 2 s (memory_start s)) s (memory_start s + 2))

-- ---- the store as opened

unfoldable pub opened_over : (area : List ℕ) → List ℕ → Lent
opened_over area s = record {
  area = area;
  cards = summed_rows (opened_rows (places_in area) s) (chop (places_in area) area);
  lists = opened_lists (places_in area) s;
  head = opened_head s;
  memory = opened_memory s;
}

-- The same of the store: a store over other places, at least as many, of which the added ones are free.
unfoldable pub grown_over : (places : List (List ℕ)) → Store → Store
grown_over places s = record {
  threshold = s.threshold;
  cursor = s.cursor;
  marks = s.marks;
  levels = s.levels;
  cards = s.cards ++ replicate (length places - size s) free;
  places = places;
  memory = s.memory;
}
