-- Values in two arrays: those of a range, and how they are moved to the front.
use Rattle.std.specs.Prelude.{ℕ, List, ◌++◌, length, take, drop}
use Rattle.table.specs.Entry.{Entry}
use Rattle.ldc.specs.Lists.{keep}
use Rattle.ldc.specs.Read.{holds_value}
use Rattle.book.specs.Pieces.{Words, MutWords}
use Rattle.read_gather.specs.Gathered.{Gathers}

-- Some entries without the delete marks from the i-th on.
unfoldable pub values_from : (i : ℕ) → List Entry → List Entry
values_from i es = take i es ++ keep holds_value (drop i es)

-- Of the n entries that the arrays held, r are left.
pub record Sifted (bytes keys spots : List ℕ) (from n : ℕ) (keys' spots' : List ℕ) (r : ℕ) : Type 0 where
  pub gathers : (es : List Entry) → Gathers bytes keys spots n es → Gathers bytes keys' spots' r (values_from from es)

-- After a call the arrays hold the first of some values, as many as there is room for: the keys, and where in area or memory table they stand.
abbrev pub HoldFirst : (area memory : Words) → (keys spots : MutWords) → (r : ℕ) → (values : List Entry) → Type 0
HoldFirst area memory keys spots r values =
    Gathers (area.entry.now ++ memory.entry.now) keys.exit.now spots.exit.now r (take (length keys.entry.now) values)
