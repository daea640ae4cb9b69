-- `greatest` meets its contract: the last entry is the one before the count.
use Rattle.std.proofs.Common.{ℕ, List, true, ◌≡◌, ◌+◌, ◌-◌, ◌≤◌, ◌<◌, length, arith}
use Rattle.table.specs.Limits.{entry_head, place_size}
use Rattle.table.specs.Entry.{key_at}
use Rattle.table.specs.Table.{count_of, entries, is_table}
use Rattle.table.specs.Search.{greatest_key, position_in}
use Rattle.table.proofs.Position.{stands_at, table-good, table-memory}
use Rattle.table.proofs.Entries.{greatest-at}
use Rattle.table.proofs.Room.{head-within}
use Rattle.table.proofs.search.greatest.Goals as goal

-- The last of n entries.
module _ (s : List ℕ) (n : ℕ) (t : is_table s ≡ true) (e : n ≡ count_of s) where
  some : 1 ≤ n
  some = let g = table-good s t in omega arith

  last : n - 1 < count_of s
  last = let g = table-good s t in omega arith

  module _ (at : ℕ) (p : at ≡ position_in (n - 1) s) where
    within : length s ≡ place_size → at + entry_head ≤ length s
    within size = head-within s at size (stands_at s (table-memory s t) (n - 1) at last p)

    greatest : (key : ℕ) → key ≡ key_at s at → key ≡ greatest_key (entries s)
    greatest key k = cc (greatest-at s t)

pub overflow_sub-count : goal.overflow_sub-count
overflow_sub-count c = some _ _ c.requires.1 c.count.ensures

pub nth-at-requires : goal.nth-at-requires
nth-at-requires c =
    ((c.requires.0, table-memory c.args.s.now c.requires.1), last _ _ c.requires.1 c.count.ensures)

pub key_at-requires : goal.key_at-requires
key_at-requires c = within _ _ c.requires.1 c.count.ensures _ c.nth-at.ensures c.requires.0

pub returns : goal.returns
returns c = greatest _ _ c.requires.1 c.count.ensures _ c.nth-at.ensures _ c.key_at.ensures
