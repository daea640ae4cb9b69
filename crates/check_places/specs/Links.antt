-- Rule C, and what rules E and F say of links, as they are walked.
use Rattle.std.specs.Prelude.{ℕ, ◌≤◌, ◌<◌, ◌≡◌, List, [], map, Bool, false, cond, ◌&&◌, ◌||◌, leb, eqb, length, get_or}
use Rattle.table.specs.Table.{entries, is_table, zeros, place_of}
use Rattle.table.specs.Search.{greatest_key}
use Rattle.ldc.specs.Lists.{all, flat, is_empty, all_from}
use Rattle.ldc.specs.Store.{is_free, is_frozen}
use Rattle.ldc.specs.Rules.{link_good}
use Rattle.ldc.specs.Lent.{summary_good}
use Rattle.ldc.specs.Layout.{link_count, card_of, items_in, threshold_in}
use Rattle.book.specs.Rows.{links_on, shown_by}
use Rattle.book.specs.Row.{links_in}
use Rattle.check_walk.specs.Links.{levels_apart, links_marked}

-- Rule C: is a place free, or does it hold a table, and are the bits on its card right?
unfoldable pub place_tabled : (area : List ℕ) → (cards : List (List ℕ)) → (p : ℕ) → Bool
place_tabled area cards p =
    (is_free (card_of (get_or cards p [])) || is_table (place_of area p)) && summary_good (get_or cards p []) (place_of area p)

unfoldable pub walk_c : (area : List ℕ) → (cards : List (List ℕ)) → Bool
walk_c area cards = all_from (length cards) 0 (place_tabled area cards)

-- The greatest key of each table is noted, at the number of its place.
pub record Noted (area : List ℕ) (cards : List (List ℕ)) (ends : List ℕ) : Type 0 where
  pub room : length cards ≤ length ends
  pub last : (p : ℕ) → p < length cards → is_free (card_of (get_or cards p [])) ≡ false
      → get_or ends p 0 ≡ greatest_key (entries (place_of area p))

-- ---- rule E: each link by itself

-- Has a row at most T links, all of them good?
unfoldable pub row_hangs : (area : List ℕ) → (cards : List (List ℕ)) → (T : ℕ) → (row : List ℕ) → Bool
row_hangs area cards t row = leb (link_count row) t && all (link_good (shown_by area cards)) (links_in row)

unfoldable pub cards_hang : (area : List ℕ) → (cards : List (List ℕ)) → (T : ℕ) → Bool
cards_hang area cards t = all (row_hangs area cards t) cards

-- Do these tables have no links?
unfoldable pub bare : (cards : List (List ℕ)) → (items : List ℕ) → Bool
bare cards items = all (λ p. is_empty (links_on cards p)) items

-- Rule E.
unfoldable pub walk_e : (area : List ℕ) → (cards : List (List ℕ)) → (lists head : List ℕ) → Bool
walk_e area cards lists head =
    cards_hang area cards (threshold_in head)
    && (bare cards (items_in (length cards) lists head 0) && levels_apart 3 1 cards lists head (zeros (length cards)))

-- ---- rule F

-- Is a place marked exactly if it is frozen?
unfoldable pub mark_fits : (cards : List (List ℕ)) → (marks : List ℕ) → (p : ℕ) → Bool
mark_fits cards marks p = eqb (get_or marks p 0) (cond (is_frozen (card_of (get_or cards p []))) 1 0)

unfoldable pub marks_fit : (cards : List (List ℕ)) → (marks : List ℕ) → Bool
marks_fit cards marks = all_from (length cards) 0 (mark_fits cards marks)

unfoldable pub walk_f : (cards : List (List ℕ)) → Bool
walk_f cards = marks_fit cards (links_marked (zeros (length cards)) (flat (map links_in cards)))
