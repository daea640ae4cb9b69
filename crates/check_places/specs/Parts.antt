-- What rule G says of spans and of parts not in use, as it is walked.
use Rattle.std.specs.Prelude.{ℕ, List, Bool, ◌&&◌, length, drop}
use Rattle.table.specs.Table.{all_zero}
use Rattle.ldc.specs.Lists.{all, all_from}
use Rattle.ldc.specs.Rules.{spans_rise}
use Rattle.ldc.specs.Layout.{marks_good, row_rest, items_in, part_in, level_count, length_in}
use Rattle.book.specs.Rows.{shown_by}

-- Do the spans of level n rise?
unfoldable pub level_rises : (area : List ℕ) → (cards : List (List ℕ)) → (lists head : List ℕ) → (n : ℕ) → Bool
level_rises area cards lists head n = spans_rise (shown_by area cards) (items_in (length cards) lists head n)

-- The items of level n's list behind those in use.
unfoldable pub list_rest_zero : (P : ℕ) → (lists head : List ℕ) → (n : ℕ) → Bool
list_rest_zero P lists head n = all_zero (drop (length_in head n) (part_in P lists n))

-- Rule G.
unfoldable pub walk_g : (area : List ℕ) → (cards : List (List ℕ)) → (lists head : List ℕ) → Bool
walk_g area cards lists head =
    marks_good head
    && (all (λ row. all_zero (row_rest row)) cards
    && (all_from level_count 0 (list_rest_zero (length cards) lists head)
    && all_from 3 1 (level_rises area cards lists head)))
