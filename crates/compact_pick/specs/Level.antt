-- How many live tables the levels have, by the head's words.
use Rattle.std.specs.Prelude.{ℕ, ◌≤◌, ◌<◌, List, Option, Some, None}
use Rattle.ldc.specs.Store.{last_level}
use Rattle.ldc.specs.Layout.{level_count, most_places, length_in}

-- Lists of no more items than there can be places.
abbrev pub Short : (head : List ℕ) → Type 0
Short head = (n : ℕ) → n < level_count → length_in head n ≤ most_places

-- A level that has a capacity, as all but the last have, or none.
abbrev pub Relieved : Option ℕ → Type 0
Relieved (Some n) = n < last_level
Relieved None = Unit {0}

-- A level that has a capacity, and maybe another, to be compared by their lengths.
pub record Compared (head : List ℕ) (n : ℕ) (other : Option ℕ) : Type 0 where
  pub short : Short head
  pub level : n < last_level
  pub other-level : Relieved other
