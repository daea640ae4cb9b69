-- Pieces that a step may be done to, and a merge that is ready to be done: what the code may assume. Which memory table stands beside the
-- other pieces does not matter to a step, so it is said for some memory table what may be assumed, and for every one what is left.
use Rattle.std.specs.Prelude.{ℕ, ◌*◌, ◌≤◌, ◌≡◌, List, map, length, take}
use Rattle.coding.specs.Number.{Bytes}
use Rattle.table.specs.Limits.{place_size}
use Rattle.table.specs.Table.{table_bytes}
use Rattle.ldc.specs.Lists.{flat}
use Rattle.ldc.specs.Lent.{Lent, store_of, lent_of}
use Rattle.ldc.specs.Place.{free_places}
use Rattle.ldc.specs.Tidy.{merged_tables}
use Rattle.ldc.specs.Steps.{do_merge}
use Rattle.ldc.specs.Facts.{Merging}
use Rattle.book.specs.Pieces.{Beside}
use Rattle.book.specs.Rows.{Wide}
use Rattle.read.specs.Shown.{Kept}
use Rattle.compact_merge.specs.Merge.{merge_tables}

-- Kept memory with a memory table of 1,024 bytes.
pub record Backed (m : Lent) : Type 0 where
  pub long : length m.memory ≡ place_size
  pub valued : Bytes m.memory
  pub kept : Kept m

-- Rows of as many words as their type has, and some memory table with which all is kept.
pub record Workable (m : Beside) : Type 0 where
  pub memory : List ℕ
  pub wide : Wide (m memory).cards
  pub backed : Backed (m memory)

-- Place p is to be merged on level n; the first k places of `out` are the tables that come out, and a place is free for each.
pub record Merges (m : Beside) (n p : ℕ) (out : List ℕ) (k : ℕ) : Type 0 where
  pub work : Workable m
  pub merging : Merging (store_of (m work.memory)) n p
  pub many : length (merged_tables (store_of (m work.memory)) n p) ≡ k
  pub tables : take (k * place_size) out ≡ flat (map table_bytes (merged_tables (store_of (m work.memory)) n p))
  pub few : k ≤ merge_tables
  pub room : k ≤ free_places (store_of (m work.memory))

-- The merge is done, with every memory table that the pieces are kept with.
abbrev pub Merged : (before : Beside) → (n p : ℕ) → (after : Beside) → Type 0
Merged before n p after = (memory : List ℕ) → Backed (before memory) → after memory ≡ lent_of (do_merge n p (store_of (before memory)))
