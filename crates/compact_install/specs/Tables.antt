-- Tables to be written, one after the other, in place of one: where their bytes stand, and the places for them. Nothing is asked of the
-- memory table.
use Rattle.std.specs.Prelude.{ℕ, suc, ◌+◌, ◌*◌, ◌≤◌, ◌<◌, ◌≡◌, length, take}
use mathlib.Core.List.{List, map, Memᴰ}
use Rattle.table.specs.Limits.{place_size}
use Rattle.table.specs.Entry.{Entry}
use Rattle.table.specs.Table.{table_bytes, MemoryPlace}
use Rattle.ldc.specs.Lists.{flat}
use Rattle.ldc.specs.Layout.{level_count}
use Rattle.ldc.specs.Store.{Store, size, level, with_level}
use Rattle.ldc.specs.Lent.{Lent, lent_of}
use Rattle.ldc.specs.Place.{written_all, places_taken, free_places}
use Rattle.ldc.specs.Steps.{replaced}
use Rattle.book_edit.specs.Shown.{Fits, Shows}
use Rattle.compact_merge.specs.Merge.{merge_tables}

-- The first k places of `out` are these tables.
pub record Tables (out : List ℕ) (k : ℕ) (ts : List (List Entry)) : Type 0 where
  pub many : length ts ≡ k
  pub whole : (t : List Entry) → Memᴰ t ts → MemoryPlace (table_bytes t)
  pub bytes : take (k * place_size) out ≡ flat (map table_bytes ts)

-- The tables written, and the places that they take in level n's list for place p.
abbrev pub placed : (n p : ℕ) → List (List Entry) → Store → Store
placed n p ts s = with_level n (replaced p (places_taken ts s) (level s n)) (written_all ts s)

-- The pieces are those that are lent of a store.
pub record Lends (m : Lent) (s : Store) : Type 0 where
  pub shows : Shows m.area m.cards m.head s
  pub lists : m.lists ≡ (lent_of s).lists

-- A store that the pieces show, with p on level n, a free place for each table, and room for them in the list.
pub record Placing (m : Lent) (n p : ℕ) (out : List ℕ) (k : ℕ) (s : Store) (ts : List (List Entry)) : Type 0 where
  pub fits : Fits s
  pub lends : Lends m s
  pub told : Tables out k ts
  pub room : k ≤ free_places s
  pub four : n < level_count
  pub below : p < size s
  pub on : Memᴰ p (level s n)
  pub space : length (level s n) + k ≤ suc (size s)

-- There is such a store, and the tables are no more than a merge makes.
pub record Writes (m : Lent) (n p : ℕ) (out : List ℕ) (k : ℕ) : Type 0 where
  pub store : Store
  pub tables : List (List Entry)
  pub placing : Placing m n p out k store tables
  pub few : k ≤ merge_tables

-- The tables are written and stand in the list, in every such store.
abbrev pub Places : (before : Lent) → (n p : ℕ) → (out : List ℕ) → (k : ℕ) → (after : Lent) → Type 0
Places before n p out k after =
    (s : Store) → (ts : List (List Entry)) → Placing before n p out k s ts → Lends after (placed n p ts s)
