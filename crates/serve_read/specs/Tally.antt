-- The counts of a report, over the rows of the cards, the head and the memory table.
use Rattle.std.specs.Prelude.{ℕ, ◌+◌, ◌≤◌, ◌<◌, ◌≡◌, List, [], ◌∷◌, true, length, get_or}
use Rattle.table.specs.Limits.{place_size}
use Rattle.table.specs.Table.{is_memory, count_of}
use Rattle.ldc.specs.Lists.{how_many}
use Rattle.ldc.specs.Store.{is_free, is_frozen}
use Rattle.ldc.specs.Layout.{most_places, level_count, link_limit, card_of, link_count, length_in}
use Rattle.ldc.specs.Request.{report_kind, done_result, reply_bytes}
use Rattle.wire.specs.Reply.{numbers}

-- How many rows say free, how many frozen, and how many links they say in all.
unfoldable pub free_in : List (List ℕ) → ℕ
free_in rows = how_many (λ row. is_free (card_of row)) rows

unfoldable pub frozen_in : List (List ℕ) → ℕ
frozen_in rows = how_many (λ row. is_frozen (card_of row)) rows

unfoldable pub links_counted : List (List ℕ) → ℕ
links_counted [] = 0
links_counted (row ∷ rows) = link_count row + links_counted rows

-- Free, live on levels 0 to 3, frozen, links, memory entries; and the reply that says them.
abbrev pub counts : (cards : List (List ℕ)) → (head memory : List ℕ) → List ℕ
counts cards head memory =
    free_in cards ∷ length_in head 0 ∷ length_in head 1 ∷ length_in head 2 ∷ length_in head 3
    ∷ frozen_in cards ∷ links_counted cards ∷ count_of memory ∷ []

abbrev pub report_reply : (cards : List (List ℕ)) → (head memory : List ℕ) → List ℕ
report_reply cards head memory = reply_bytes report_kind done_result (numbers (counts cards head memory))

-- Cards, head and memory table whose counts fit two bytes.
pub record Counts (cards : List (List ℕ)) (head memory : List ℕ) : Type 0 where
  pub few : length cards ≤ most_places
  pub linked : (p : ℕ) → p < length cards → link_count (get_or cards p []) ≤ link_limit
  pub lists : (n : ℕ) → n < level_count → length_in head n ≤ most_places
  pub place : length memory ≡ place_size
  pub good : is_memory memory ≡ true
