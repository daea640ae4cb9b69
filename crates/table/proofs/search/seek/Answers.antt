-- `seek` meets its contract: the entry that `first_from` gives is the first from the key on, unless it is the end of all.
use Rattle.std.proofs.Common.{ℕ, List, ◌≡◌, ◌≤◌, ◌<◌, sym, ap, ◌∙◌}
use borrow.Author.Tests.{lt-ltb, le-ltb}
use Rattle.std.specs.Prelude.{Some, None}
use Rattle.table.specs.Table.{count_of, entries}
use Rattle.table.specs.Search.{count_below, position_in, seek_in}
use Rattle.table.proofs.Found.{seek-below}
use Rattle.table.proofs.search.seek.Goals as goal

-- What `first_from` gave, and the count.
module _ (s : List ℕ) (key i at n : ℕ) (hi : i ≡ count_below key (entries s)) (ha : at ≡ position_in i s) (hn : n ≡ count_of s) where
  found : i < n → Some at ≡ seek_in s key
  found h = ap Some ha ∙ sym (seek-below s key ∙ rw (← hi, ← hn, lt-ltb i n h))

  ended : n ≤ i → None ≡ seek_in s key
  ended h = sym (seek-below s key ∙ rw (← hi, ← hn, le-ltb i n h))

pub returns-then-first-count : goal.returns-then-first-count
returns-then-first-count c = found _ _ _ _ _ c.first_from-first.ensures.0 c.first_from-first.ensures.1 c.count.ensures c.if-first-count.true

pub returns-else-first-count : goal.returns-else-first-count
returns-else-first-count c = ended _ _ _ _ _ c.first_from-first.ensures.0 c.first_from-first.ensures.1 c.count.ensures c.if-first-count.false
