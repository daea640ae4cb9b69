-- Which places are named by links, over the rows of the cards; which of them another table than the merged one holds; the rows after those
-- that none holds were freed.
use Rattle.std.specs.Prelude.{ℕ, ◌≤◌, ◌<◌, ◌≡◌, Bool, true, false, cond, not, ◌&&◌, eqb, ltb, length, get_or, set}
use mathlib.Core.List.{List, [], ◌∷◌, map, Memᴰ}
use Rattle.table.specs.Table.{entries, place_of, zeros}
use Rattle.table.specs.Search.{least_key, greatest_key}
use Rattle.summary.specs.Summary.{summary_words}
use Rattle.ldc.specs.Lists.{any}
use Rattle.ldc.specs.Store.{free, links_of, span_start, span_end}
use Rattle.ldc.specs.Lent.{row_good}
use Rattle.ldc.specs.Layout.{link_limit, link_count, link_at, card_of, row_with}
use Rattle.read.specs.Shown.{Tabled, Legible, Rising}
use Rattle.book.specs.Rows.{shown_by}

-- Does a link of this row name the place? Does one of any row? Does one of a row other than place p's?
unfoldable pub row_names : (place : ℕ) → List ℕ → Bool
row_names f row = any (λ l. eqb l.place f) (links_of (card_of row))

unfoldable pub named_in : (place : ℕ) → List (List ℕ) → Bool
named_in f rows = any (row_names f) rows

unfoldable pub held_in : (p place : ℕ) → List (List ℕ) → Bool
held_in p f rows = named_in f (set rows p (row_with free (zeros summary_words)))

-- The same of some tables, by their places.
unfoldable pub held_among : (p place : ℕ) → List (List ℕ) → (items : List ℕ) → Bool
held_among p f rows items = any (λ q. not (eqb q p) && row_names f (get_or rows q [])) items

-- The places that a row's links name.
unfoldable pub places_named : List ℕ → List ℕ
places_named row = map (λ l. l.place) (links_of (card_of row))

-- Flags for place p's links: is the place that the i-th names held by another table? Beyond the last link they say no.
abbrev pub Flags : (rows : List (List ℕ)) → (p : ℕ) → List Bool → Type 0
Flags rows p flags =
    (i : ℕ) → get_or flags i false ≡ (ltb i (link_count (get_or rows p [])) && held_in p (link_at (get_or rows p []) i).place rows)

-- Of these places those whose flag says that they are not held are freed.
abbrev pub freed_in : List Bool → (places : List ℕ) → List (List ℕ) → List (List ℕ)
freed_in bs [] rows = rows
freed_in [] (f ∷ fs) rows = rows
freed_in (b ∷ bs) (f ∷ fs) rows = freed_in bs fs (cond b rows (set rows f (row_with free (zeros summary_words))))

-- A row that says as many links as it has, no more than there is room for.
pub record Clear (row : List ℕ) : Type 0 where
  pub good : row_good row ≡ true
  pub few : link_count row ≤ link_limit

-- A row whose links name some of so many places.
pub record Names (row : List ℕ) (places : ℕ) : Type 0 where
  pub clear : Clear row
  pub within : (i : ℕ) → i < link_count row → (link_at row i).place < places

-- A place with a table, and a level's list to seek its links in: those whose links name it stand there, and their spans meet its keys.
pub record Sought (area : List ℕ) (cards : List (List ℕ)) (items : List ℕ) (f : ℕ) : Type 0 where
  pub legible : Legible area cards
  pub rising : Rising area cards items
  pub tabled : Tabled area f
  pub among : (q : ℕ) → row_names f (get_or cards q []) ≡ true → Memᴰ q items
  pub reaches : (q : ℕ) → row_names f (get_or cards q []) ≡ true → least_key (entries (place_of area f)) ≤ span_end (shown_by area cards) q
  pub starts : (q : ℕ) → row_names f (get_or cards q []) ≡ true
      → span_start (shown_by area cards) q ≤ greatest_key (entries (place_of area f))

-- A level's list to seek all that place p's links name in.
pub record SoughtAll (area : List ℕ) (cards : List (List ℕ)) (items : List ℕ) (p : ℕ) : Type 0 where
  pub below : p < length cards
  pub legible : Legible area cards
  pub each : (i : ℕ) → i < link_count (get_or cards p []) → Sought area cards items (link_at (get_or cards p []) i).place
