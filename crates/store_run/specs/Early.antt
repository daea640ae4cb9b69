-- The number by which a run is refused before the store is looked at.
use Rattle.std.specs.Prelude.{ℕ, cond, List, ltb}
use Rattle.ldc.specs.Lists.{is_some}
use Rattle.ldc.specs.Lent.{Lent, sizes_good}
use Rattle.ldc.specs.Run.{accepted, wrong_sizes, short_answer, broken_list, room_limit, split}

-- 1, 3 or 4, in this order, over an answer buffer of so many bytes; 0 where the store is next.
unfoldable pub early_number : Lent → (room : ℕ) → (list : List ℕ) → ℕ
early_number m room list =
    cond (sizes_good m) (cond (ltb room room_limit) short_answer (cond (is_some (split list)) accepted broken_list)) wrong_sizes
