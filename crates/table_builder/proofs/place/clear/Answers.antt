-- `clear` meets its contract: the head written over zeros is that of an empty table.
use Rattle.std.proofs.Common.{ℕ, List, [], ◌≡◌}
use Rattle.std.proofs.lemmas.List.Edits.{sets}
use Rattle.coding.specs.Number.{bytes_of}
use Rattle.table.specs.Limits.{table_head, place_size}
use Rattle.table.specs.Table.{zeros, table_bytes}
use Rattle.table.proofs.Writes.{empty-written}
use Rattle.table_builder.proofs.place.clear.Goals as goal

-- The three writes.
written : (n : ℕ) (s1 s2 s3 : List ℕ) → n ≡ place_size
    → s1 ≡ zeros n
    → s2 ≡ sets s1 0 (bytes_of 2 table_head)
    → s3 ≡ sets s2 2 (bytes_of 2 32)
    → s3 ≡ table_bytes []
written n s1 s2 s3 size e1 e2 e3 = cc empty-written

pub returns : goal.returns
returns c = written _ _ _ _ c.requires c.wipe.ensures c.put_u16.ensures c.put_u16-2.ensures
