-- What a caller needs of the tables that come out: they are those of the whole store, and each is a valid table.
use Prim.Native.Nat.{ℕ}
use mathlib.Core.Path.{◌≡◌, refl}
use mathlib.Core.List.{List, Memᴰ}
use Rattle.coding.specs.Number.{Bytes}
use Rattle.table.specs.Entry.{Entry}
use Rattle.ldc.specs.Store.{card, links, bytes_at, table, slice, sources, span_start, span_end, span_holds}
use Rattle.ldc.specs.Lent.{Lent, level_of, store_of}
use Rattle.ldc.specs.Tidy.{lower_tables, drops_mark, comes_out, merged_entries, merged_tables}
use Rattle.ldc.proofs.Entries.Cut.{Piece, cut-pieces}
use Rattle.read.specs.Shown.{Tabled, Legible}
use Rattle.compact_merge.specs.Merge.{tables_out, merged_in}
use Rattle.compact_merge.proofs.Merged.{merged-rising, merged-values, tables-cut}

-- The tables that come out of a merge do not depend on the memory table.
pub tables-shown : (m : Lent) (n p : ℕ) → merged_tables (store_of m) n p ≡ tables_out m.area m.cards m.lists m.head n p
unfolding merged_tables merged_entries comes_out drops_mark lower_tables span_holds span_start span_end sources slice table links card
    bytes_at store_of level_of
tables-shown m n p = refl

module _ (area : List ℕ) (cards : List (List ℕ)) (g : Legible area cards) (b : Bytes area) (lists head : List ℕ) (n p : ℕ) (t : Tabled area p) where
  -- Each is a valid table with an entry.
  pub tables-valid : (es : List Entry) → Memᴰ es (tables_out area cards lists head n p) → Piece es
  tables-valid es m =
      cut-pieces (merged_in area cards lists head n p) (merged-rising area cards g b lists head n p t)
      (merged-values area cards g b lists head n p t) es (rw (tables-cut area cards lists head n p) at m)
