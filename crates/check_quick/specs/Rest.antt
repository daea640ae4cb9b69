-- What the quick yes asks of a row by itself, and what it says: rules E, F and G are kept, as they are walked.
use Rattle.std.specs.Prelude.{ℕ, ◌≡◌, List, Bool, true, ◌&&◌}
use Rattle.table.specs.Table.{all_zero}
use Rattle.ldc.specs.Layout.{row_rest}
use Rattle.book.specs.Row.{links_in}
use Rattle.check_walk.specs.Links.{pairs, apart_in}
use Rattle.check_places.specs.Links.{row_hangs, walk_e, walk_f}
use Rattle.check_places.specs.Parts.{walk_g}

-- Has a row at most T links, all good and apart from each other, and zeros behind them?
unfoldable pub row_kept : (area : List ℕ) → (cards : List (List ℕ)) → (T : ℕ) → (row : List ℕ) → Bool
row_kept area cards t row = row_hangs area cards t row && (pairs apart_in (links_in row) && all_zero (row_rest row))

pub record RestKept (area : List ℕ) (cards : List (List ℕ)) (lists head : List ℕ) : Type 0 where
  pub e-kept : walk_e area cards lists head ≡ true
  pub f-kept : walk_f cards ≡ true
  pub g-kept : walk_g area cards lists head ≡ true
