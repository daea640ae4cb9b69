-- Put and delete on the bytes of the memory table.
use Rattle.std.specs.Prelude.{ℕ, ◌+◌, ◌≡◌, List, Bool, true, cond, ◌||◌, ltb, length}
use Rattle.table.specs.Limits.{entry_head, table_limit, place_size}
use Rattle.table.specs.Entry.{Entry, entry_form}
use Rattle.table.specs.Table.{count_of, entries, table_bytes, is_memory}
use Rattle.table.specs.Search.{find}
use Rattle.ldc.specs.Lists.{is_some}
use Rattle.ldc.specs.Request.{done_result, memory_full}
use Rattle.ldc.specs.Memtable.{put}

-- What a put gives: its number, and the memory table's bytes after it.
pub record Putting : Type 0 where
  pub result : ℕ
  pub bytes : List ℕ

-- Number 18: a new key when the table is full.
unfoldable pub put_in : Entry → List ℕ → Putting
put_in e s =
    cond (is_some (find e.key (entries s)) || ltb (length (entries s)) table_limit)
    (record { result = done_result; bytes = table_bytes (put e (entries s)) })
    (record { result = memory_full; bytes = s })

-- What may be put: an entry of the right form among those of a memory table, if its key is there or the table is not
-- full.
pub record Puts (to s : List ℕ) (held : Bool) (kind key : ℕ) (value : List ℕ) : Type 0 where
  pub target : length to ≡ place_size
  pub place : length s ≡ place_size
  pub good : is_memory s ≡ true
  pub form : entry_form kind (entry_head + length value) ≡ true
  pub found : held ≡ is_some (find key (entries s))
  pub room : (held || ltb (count_of s) table_limit) ≡ true
