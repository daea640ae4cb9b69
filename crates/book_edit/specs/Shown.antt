-- The stores between two writes of a step, and the pieces of lent memory that show them.
use Rattle.std.specs.Prelude.{ℕ, ◌≤◌, ◌<◌, ◌≡◌, List, length}
use Rattle.table.specs.Limits.{place_size}
use Rattle.ldc.specs.Store.{Store, size, bytes_at, level, links}
use Rattle.ldc.specs.Lent.{lent_of}
use Rattle.ldc.specs.Layout.{most_places, level_count, link_limit}

-- Sizes that no write changes: as many whole places as cards, four lists that fit, two marks, at most eight links a card, a cursor among
-- the places.
pub record Fits (s : Store) : Type 0 where
  pub placed : length s.places ≡ size s
  pub whole : (p : ℕ) → p < size s → length (bytes_at s p) ≡ place_size
  pub most : size s ≤ most_places
  pub four : length s.levels ≡ level_count
  pub two : length s.marks ≡ 2
  pub listed : (n : ℕ) → length (level s n) ≤ size s
  pub few : (p : ℕ) → length (links s p) ≤ link_limit
  pub turns : s.cursor < size s

-- The area, the cards and the head are those that are lent of a store.
pub record Shows (bytes : List ℕ) (rows : List (List ℕ)) (words : List ℕ) (s : Store) : Type 0 where
  pub area : bytes ≡ (lent_of s).area
  pub cards : rows ≡ (lent_of s).cards
  pub head : words ≡ (lent_of s).head
