-- What is asked of each row, taken apart: each part of it holds of all rows, and of those that a list names. So the links of a level
-- whose spans rise are apart.
use Prim.Native.Nat.{ℕ}
use mathlib.Core.Path.{◌≡◌, refl, sym, ◌∙◌}
use mathlib.Core.Bool.{true, ◌&&◌}
use mathlib.Core.List.{List, []}
use borrow.Author.Tests.{ltb-true}
use lib.Dec.{ltb}
use lib.ListN.{length}
use Rattle.table.specs.Table.{all_zero}
use Rattle.table.proofs.Tests.{and_parts}
use Rattle.ldc.specs.Lists.{all}
use Rattle.ldc.specs.Rules.{spans_rise}
use Rattle.ldc.specs.Layout.{row_rest}
use Rattle.ldc.proofs.Basics.ListLaws.{all-at, all_of, mem-get_or}
use Rattle.book.specs.Rows.{links_on, shown_by}
use Rattle.book.specs.Row.{links_in}
use Rattle.check_walk.specs.Links.{Readable, pairs, apart_in, links_over}
use Rattle.check_walk.specs.Lists.{names_places}
use Rattle.check_walk.proofs.ApartLaws.{all_split, level-rising}
use Rattle.check_places.specs.Links.{row_hangs, cards_hang}
use Rattle.check_quick.specs.Rest.{row_kept}

module _ (area : List ℕ) (cards : List (List ℕ)) (t : ℕ) (h : all (row_kept area cards t) cards ≡ true) where
  rows-parts : (all (row_hangs area cards t) cards ≡ true) × (all (λ row. pairs apart_in (links_in row) && all_zero (row_rest row)) cards ≡ true)
  unfolding row_kept
  rows-parts =
      and_parts (all (row_hangs area cards t) cards) _
      (sym (all_split (row_kept area cards t) (row_hangs area cards t) (λ row. pairs apart_in (links_in row) && all_zero (row_rest row)) cards
      (λ row. refl)) ∙ h)

  pub rows-hang : cards_hang area cards t ≡ true
  unfolding cards_hang
  rows-hang = rows-parts.0

  own-parts : (all (λ row. pairs apart_in (links_in row)) cards ≡ true) × (all (λ row. all_zero (row_rest row)) cards ≡ true)
  own-parts =
      and_parts (all (λ row. pairs apart_in (links_in row)) cards) _
      (sym (all_split (λ row. pairs apart_in (links_in row) && all_zero (row_rest row)) (λ row. pairs apart_in (links_in row))
      (λ row. all_zero (row_rest row)) cards (λ row. refl))
      ∙ rows-parts.1)

  pub rows_apart : all (λ row. pairs apart_in (links_in row)) cards ≡ true
  rows_apart = own-parts.0

  pub rows-rest : all (λ row. all_zero (row_rest row)) cards ≡ true
  rows-rest = own-parts.1

-- What holds of all rows holds of those that a list names.
owns-listed : (cards : List (List ℕ)) (items : List ℕ) → all (λ row. pairs apart_in (links_in row)) cards ≡ true
    → names_places (length cards) items ≡ true → all (λ p. pairs apart_in (links_on cards p)) items ≡ true
unfolding names_places links_on
owns-listed cards items h names =
    all_of (λ p. pairs apart_in (links_on cards p)) items
    (λ p m. all-at (λ row. pairs apart_in (links_in row)) cards h
    (mem-get_or cards p [] (ltb-true _ _ (all-at (λ i. ltb i (length cards)) items names m))))

-- On a level whose spans rise all links are apart, where those of each row are.
pub level-apart : (area : List ℕ) (cards : List (List ℕ)) (ends items : List ℕ) → Readable area cards ends items
    → all (λ row. pairs apart_in (links_in row)) cards ≡ true → spans_rise (shown_by area cards) items ≡ true
    → pairs apart_in (links_over cards items) ≡ true
level-apart area cards ends items r h rise =
    level-rising area cards r.sized items r.names r.tables rise ∙ owns-listed cards items h r.names
