-- Levels that can be read, as they stand in the lent pieces.
use Rattle.std.specs.Prelude.{ℕ, suc, ◌*◌, ◌≤◌, ◌<◌, ◌≡◌, List, length}
use Rattle.ldc.specs.Layout.{level_count, length_in, items_in}
use Rattle.read.specs.Shown.{Legible, Listed, LinksSummed, ListSummed, Rising}

-- Area, cards and lists whose levels can be read.
pub record Levels (area : List ℕ) (cards : List (List ℕ)) (lists head : List ℕ) : Type 0 where
  pub legible : Legible area cards
  pub sized : length lists ≡ level_count * length cards
  pub lengths : (n : ℕ) → n < level_count → length_in head n ≤ length cards
  pub newest : Listed area (items_in (length cards) lists head 0)
  pub summed : (n : ℕ) → n < level_count → ListSummed area cards (items_in (length cards) lists head n)
  pub linked : LinksSummed area cards
  pub rising : (n : ℕ) → n < 3 → Rising area cards (items_in (length cards) lists head (suc n))
