-- Links that are made: the table responsible for a key and its range, the slices to hang on some tables, and rows with slices hung on.
use Rattle.std.specs.Prelude.{ℕ, zero, suc, ◌-◌, ◌<◌, min, ◌≡◌, cond, List, [], ◌∷◌, map, eqb, length, get_or, set}
use Rattle.table.specs.Entry.{Entry}
use Rattle.ldc.specs.Store.{Link, Store, live, span_end}
use Rattle.ldc.specs.Tidy.{Slice, greatest, responsible, holding}
use Rattle.ldc.specs.Steps.{link_to}
use Rattle.ldc.specs.Layout.{link_limit, row_with}
use Rattle.ldc.specs.Facts.{Spans}
use Rattle.book.specs.Pieces.{Words, MutRows}
use Rattle.book.specs.Row.{link_added}
use Rattle.book.specs.Rows.{shown_by}
use Rattle.read.specs.Shown.{Tabled, Legible, Rising, table_in}
use Rattle.read.specs.Level.{rank}

-- The store that area and cards show when a call begins.
abbrev pub seen : (area : List ℕ) → (cards : List (List ℕ)) → Store
seen area cards = shown_by area cards

-- ---- the table responsible for a key

-- The i-th of some tables of a level, whose spans rise.
pub record Among (area : List ℕ) (cards : List (List ℕ)) (items : List ℕ) (i : ℕ) : Type 0 where
  pub legible : Legible area cards
  pub rising : Rising area cards items
  pub near : i < length items

-- The first of these tables whose span does not end below the key, or else the last.
unfoldable pub keeper : Store → (key : ℕ) → List ℕ → ℕ
keeper s k qs = min (rank s k qs) (length qs - 1)

-- From one above the previous span's end, for the first from a key given; to its own span's end, for the last to the greatest key.
unfoldable pub low_of : Store → (from : ℕ) → List ℕ → (i : ℕ) → ℕ
low_of s from qs zero = from
low_of s from qs (suc i) = suc (span_end s (get_or qs i 0))

unfoldable pub high_of : Store → List ℕ → (i : ℕ) → ℕ
high_of s qs i = cond (eqb (suc i) (length qs)) greatest (span_end s (get_or qs i 0))

-- ---- slices

-- The slice of p that hangs on the i-th of these tables.
unfoldable pub slice_at : Store → (p from : ℕ) → List ℕ → (i : ℕ) → Slice
slice_at s p from qs i = record { place = p; on = get_or qs i 0; low = low_of s from qs i; high = high_of s qs i }

-- The slices of p, with these entries, that hang on these tables, the first of which is responsible from this key on.
unfoldable pub slices_from : Store → List Entry → (p from : ℕ) → List ℕ → List Slice
slices_from s es p from qs = holding es (responsible p from (map (λ q. record { place = q; end = span_end s q }) qs))

-- The slices of p that hang on all tables of a level, when a call begins.
abbrev pub slices_seen : (area : Words) → (cards : MutRows) → (items : Words) → (p : ℕ) → List Slice
slices_seen area cards items p = slices_from (seen area.entry.now cards.entry.now) (table_in area p) p 0 items.entry.now

-- ---- rows

-- Rows with a slice of a table with these entries hung on: the row of its table has one link more.
unfoldable pub hung_row : (chosen : List Entry) → Slice → List (List ℕ) → List (List ℕ)
hung_row es r rows = set rows r.on (link_added (link_to es r) (get_or rows r.on []))

unfoldable pub hung_rows : (chosen : List Entry) → List Slice → List (List ℕ) → List (List ℕ)
hung_rows es [] rows = rows
hung_rows es (r ∷ rs) rows = hung_rows es rs (hung_row es r rows)

-- The row of a live table with room for one link more.
pub record Roomy (row : List ℕ) : Type 0 where
  pub held : List Link
  pub summary : List ℕ
  pub shown : row ≡ row_with (live held) summary
  pub room : length held < link_limit

-- The row of a live table without links.
pub record Bare (row : List ℕ) : Type 0 where
  pub summary : List ℕ
  pub shown : row ≡ row_with (live []) summary

-- Tables of a level below, all with room for a link; the first of them is responsible from this key on.
pub record Hosts (area : List ℕ) (cards : List (List ℕ)) (from : ℕ) (items : List ℕ) : Type 0 where
  pub legible : Legible area cards
  pub rising : Rising area cards items
  pub roomy : (i : ℕ) → i < length items → Roomy (get_or cards (get_or items i 0) [])
  pub spans : Spans (shown_by area cards) from items

-- A table without links that can be linked to all tables of a level below: it is none of them.
pub record Linkable (area : List ℕ) (cards : List (List ℕ)) (items : List ℕ) (p : ℕ) : Type 0 where
  pub hosts : Hosts area cards 0 items
  pub tabled : Tabled area p
  pub bare : Bare (get_or cards p [])
  pub apart : (i : ℕ) → i < length items → get_or items i 0 ≡ p → ⊥
