-- What comes out of a merge: the entries, the tables of them, and their bytes.
use Rattle.std.specs.Prelude.{ℕ, ◌+◌, ◌*◌, List, [], map}
use Rattle.table.specs.Limits.{table_limit}
use Rattle.table.specs.Entry.{Entry}
use Rattle.table.specs.Table.{table_bytes}
use Rattle.ldc.specs.Lists.{flat}
use Rattle.ldc.specs.Store.{Store}
use Rattle.ldc.specs.Lent.{store_of}
use Rattle.ldc.specs.Layout.{link_limit}
use Rattle.ldc.specs.Tidy.{merged_entries, merged_tables}
use Rattle.book.specs.Pieces.{lent, held_beside, Words, Rows}
use Rattle.book.specs.declared.head.Head.{Head}

-- A merge makes at most so many tables: as many as it reads, which are the table and the slices of its links.
abbrev pub merge_tables : ℕ
merge_tables = link_limit + 1

-- So many entries they have at most.
abbrev pub merge_entries : ℕ
merge_entries = merge_tables * table_limit

-- The store of these pieces, whatever memory table stands beside them: a merge does not read it.
abbrev pub store_in : (area : List ℕ) → (cards : List (List ℕ)) → (lists head : List ℕ) → Store
store_in area cards lists head = store_of (lent area cards lists head [])

-- The entries that come out of the merge of a place, and the tables of them.
abbrev pub merged_in : (area : List ℕ) → (cards : List (List ℕ)) → (lists head : List ℕ) → (level place : ℕ) → List Entry
merged_in area cards lists head n p = merged_entries (store_in area cards lists head) n p

abbrev pub tables_out : (area : List ℕ) → (cards : List (List ℕ)) → (lists head : List ℕ) → (level place : ℕ) → List (List Entry)
tables_out area cards lists head n p = merged_tables (store_in area cards lists head) n p

-- The bytes of tables, one place after the other.
unfoldable pub bytes_out : List (List Entry) → List ℕ
bytes_out tables = flat (map table_bytes tables)

-- ---- the same over the parameters of a call, at its entry

abbrev pub store_held : (area : Words) → (cards : Rows) → (lists : Words) → Head → Store
store_held area cards lists head = store_of (held_beside area.entry.now cards.entry.now lists.entry.now head [])

abbrev pub tables_out_of : (area : Words) → (cards : Rows) → (lists : Words) → Head → (level place : ℕ) → List (List Entry)
tables_out_of area cards lists head n p = merged_tables (store_held area cards lists head) n p
