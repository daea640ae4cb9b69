-- The level lists as they are walked, and how often each place is listed.
use Rattle.std.specs.Prelude.{ℕ, zero, suc, ◌+◌, List, [], ◌∷◌, ◌++◌, Bool, cond, ◌&&◌, leb, ltb, eqb, length, get_or, set}
use Rattle.table.specs.Table.{zeros}
use Rattle.ldc.specs.Lists.{all_from}
use Rattle.ldc.specs.Store.{is_live}
use Rattle.ldc.specs.Lent.{row_good}
use Rattle.ldc.specs.Layout.{card_of, items_in, level_count, length_in}
use Rattle.check_walk.specs.Lists.{names_places}

-- Those of n levels from one on.
unfoldable pub listed : (n from : ℕ) → (P : ℕ) → (lists head : List ℕ) → List ℕ
listed zero from P lists head = []
listed (suc n) from P lists head = items_in P lists head from ++ listed n (suc from) P lists head

-- A count of 2 stands for any more.
unfoldable pub bumped : ℕ → ℕ
bumped k = cond (ltb k 2) (k + 1) k

-- Counts to which items are added.
unfoldable pub tallied : (counts items : List ℕ) → List ℕ
tallied counts [] = counts
tallied counts (i ∷ is) = tallied (set counts i (bumped (get_or counts i 0))) is

-- Does a level's list have room, and do its items name places? So for all four.
unfoldable pub list_good : (P : ℕ) → (lists head : List ℕ) → (n : ℕ) → Bool
list_good P lists head n = leb (length_in head n) P && names_places P (items_in P lists head n)

unfoldable pub lists_good : (P : ℕ) → (lists head : List ℕ) → Bool
lists_good P lists head = all_from level_count 0 (list_good P lists head)

-- Is a place's row good, and is the place listed once if it is live, else not at all? So for all.
unfoldable pub place_good : (cards : List (List ℕ)) → (counts : List ℕ) → (p : ℕ) → Bool
place_good cards counts p =
    row_good (get_or cards p []) && eqb (get_or counts p 0) (cond (is_live (card_of (get_or cards p []))) 1 0)

unfoldable pub places_good : (cards : List (List ℕ)) → (counts : List ℕ) → Bool
places_good cards counts = all_from (length cards) 0 (place_good cards counts)

-- Rule B.
unfoldable pub walk_b : (cards : List (List ℕ)) → (lists head : List ℕ) → Bool
walk_b cards lists head =
    lists_good (length cards) lists head && places_good cards (tallied (zeros (length cards)) (listed level_count 0 (length cards) lists head))
