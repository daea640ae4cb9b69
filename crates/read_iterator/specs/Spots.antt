-- Where an entry stands: in the area, or behind it in the memory table.
use Rattle.std.specs.Prelude.{ℕ, ◌%◌, ◌≡◌, List, length}
use Rattle.table.specs.Limits.{place_size}

-- An area of whole places, and a memory table.
pub record Whole (area memory : List ℕ) : Type 0 where
  pub places : length area % place_size ≡ 0
  pub table : length memory ≡ place_size
