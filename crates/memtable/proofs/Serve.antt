-- A put on the bytes, by its two ways out; and that it is the put that a store serves.
use Prim.Native.Nat.{ℕ}
use mathlib.Core.Path.{◌≡◌}
use mathlib.Core.Bool.{Bool, true, false, ◌||◌}
use mathlib.Core.List.{List}
use lib.Dec.{ltb}
use lib.ListN.{length}
use Rattle.table.specs.Limits.{table_limit}
use Rattle.table.specs.Entry.{Entry, entry_of}
use Rattle.table.specs.Table.{count_of, entries, table_bytes}
use Rattle.table.specs.Search.{find}
use Rattle.table.proofs.Tests.{cases}
use Rattle.table.proofs.Entries.{length-entries}
use Rattle.ldc.specs.Lists.{is_some}
use Rattle.ldc.specs.Store.{Store, with_memory}
use Rattle.ldc.specs.Memtable.{put, serve_put}
use Rattle.memtable.specs.Put.{put_in}

module _ (kind key : ℕ) (v s : List ℕ) (there : Bool) (f : there ≡ is_some (find key (entries s))) where
  pub put-done : (there || ltb (count_of s) table_limit) ≡ true
      → put_in (entry_of kind key v) s ≡ record { result = 0; bytes = table_bytes (put (entry_of kind key v) (entries s)) }
  unfolding put_in entry_of
  put-done h = rw (← f, length-entries s, h)

  pub put_full : (there || ltb (count_of s) table_limit) ≡ false → put_in (entry_of kind key v) s ≡ record { result = 18; bytes = s }
  unfolding put_in entry_of
  put_full h = rw (← f, length-entries s, h)

-- What a store serves is what is done to the bytes of its memory table: its number, the bytes, and nothing else of the store.
module _ (s : Store) (e : Entry) (b : List ℕ) (shown : entries b ≡ s.memory) (held : table_bytes s.memory ≡ b) where
  pub served-result : (serve_put s e).result ≡ (put_in e b).result
  unfolding serve_put put_in
  served-result =
      rw shown
      (cases (is_some (find e.key s.memory) || ltb (length s.memory) table_limit) (λ q. rw q) (λ q. rw q))

  pub served-bytes : table_bytes (serve_put s e).store.memory ≡ (put_in e b).bytes
  unfolding serve_put put_in
  served-bytes =
      rw shown
      (cases (is_some (find e.key s.memory) || ltb (length s.memory) table_limit) (λ q. rw q) (λ q. rw q held))

  pub served-store : (serve_put s e).store ≡ with_memory (serve_put s e).store.memory s
  unfolding serve_put
  served-store =
      cases (is_some (find e.key s.memory) || ltb (length s.memory) table_limit) (λ q. rw q) (λ q. rw q)
