-- A level's list in its part of the lent lists: the items in use first, zeros behind. The head's words have how many they are.
use Rattle.std.specs.Prelude.{ℕ, ◌+◌, ◌*◌, ◌-◌, ◌≤◌, ◌<◌, ◌≡◌, List, ◌++◌, length, set}
use Rattle.std.proofs.lemmas.List.Edits.{sets}
use Rattle.table.specs.Table.{zeros}
use Rattle.ldc.specs.Layout.{most_places, level_count, length_in, length_word, part_in, items_in}

-- A level's list in its part.
pub record Listing (n size : ℕ) (lists words : List ℕ) : Type 0 where
  pub level : n < level_count
  pub few : size ≤ most_places
  pub within : n * size + size ≤ length lists
  pub fits : length_in words n ≤ size
  pub rest : part_in size lists n ≡ items_in size lists words n ++ zeros (size - length_in words n)

-- The lists with these items as level n's.
unfoldable pub with_items : (n size : ℕ) → (items lists : List ℕ) → List ℕ
with_items n size items lists = sets lists (n * size) (items ++ zeros (size - length items))

-- What changing a level's list leaves: these items in its part, and their number in the head.
abbrev pub Relisted : (n size : ℕ) → (items lists words lists' words' : List ℕ) → Type 0
Relisted n size items lists words lists' words' =
    (lists' ≡ with_items n size items lists) × (words' ≡ set words (length_word n) (length items))
