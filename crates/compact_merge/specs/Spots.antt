-- The entries that stand at the first of some spots.
use Rattle.std.specs.Prelude.{ℕ, ◌≤◌, ◌^◌, ◌≡◌, Bool, List, map, length, take}
use Rattle.table.specs.Entry.{Entry, entry_at}
use Rattle.table.specs.Valid.{Keys, Values}
use Rattle.ldc.specs.Lists.{keep}
use Rattle.book.specs.Pieces.{Words}
use Rattle.read_gather.specs.Gathered.{AllSeated}

abbrev pub standing : (bytes spots : List ℕ) → (n : ℕ) → List Entry
standing bytes spots n = map (entry_at bytes) (take n spots)

-- They stand whole, and may be written in tables.
pub record Stand (bytes spots : List ℕ) (n : ℕ) : Type 0 where
  pub inside : n ≤ length spots
  pub seated : AllSeated bytes (take n spots)
  pub keys : Keys 0 (2 ^ 64) (standing bytes spots n)
  pub values : Values (standing bytes spots n)

-- Of the first n spots those whose entries pass a test were moved to the front: r of them.
pub record Sifted (test : Entry → Bool) (bytes spots : List ℕ) (n : ℕ) (spots' : List ℕ) (r : ℕ) : Type 0 where
  pub few : r ≤ n
  pub kept : standing bytes spots' r ≡ keep test (standing bytes spots n)
  pub seated : AllSeated bytes (take r spots')

-- ---- the same over the parameters of a call, at its entry

abbrev pub standing_in : (area spots : Words) → (n : ℕ) → List Entry
standing_in area spots n = standing area.entry.now spots.entry.now n
