-- Marks, and links that are apart: one turn of the loops that walk them.
use Prim.Native.Nat.{ℕ, suc, ◌+◌, ◌≤◌, ◌<◌}
use mathlib.Core.Path.{◌≡◌, refl, sym, ◌∙◌}
use mathlib.Core.Bool.{Bool, true, false, ◌&&◌}
use mathlib.Core.List.{List, [], ◌∷◌, ◌++◌, map}
use native.Mathlib.Numerals.{add-one}
use lib.ListN.{length, get_or, drop, set, length-set, drop_of_length-le}
use lib.Seq.{drop-cons}
use Rattle.ldc.specs.Lists.{all, flat}
use Rattle.ldc.specs.Store.{Link}
use Rattle.book.specs.Rows.{links_on}
use Rattle.check_walk.specs.Links.{pairs, links_over, links_marked}
use Rattle.book.specs.Row.{links_in}
use Rattle.ldc.specs.Layout.{link_at}
use Rattle.book.proofs.Rows.{links-cons, link-in}

-- ---- marks

pub mark-append : (t : List ℕ) (ls ms : List Link) → links_marked t (ls ++ ms) ≡ links_marked (links_marked t ls) ms
unfolding links_marked
mark-append t [] ms = refl
mark-append t (l ∷ ls) ms = mark-append (set t l.place 1) ls ms

-- They are as many as before.
pub long-marks : (t : List ℕ) (ls : List Link) → length (links_marked t ls) ≡ length t
unfolding links_marked
long-marks t [] = refl
long-marks t (l ∷ ls) = long-marks (set t l.place 1) ls ∙ length-set t l.place 1

module _ (t row : List ℕ) (j : ℕ) where
  pub mark-turn : j < length (links_in row)
      → links_marked t (drop j (links_in row))
      ≡ links_marked (set t (link_at row j).place 1) (drop (j + 1) (links_in row))
  unfolding links_marked
  mark-turn h = rw (links-cons row j h)

  pub mark-end : length (links_in row) ≤ j → links_marked t (drop j (links_in row)) ≡ t
  unfolding links_marked
  mark-end h = rw (drop_of_length-le (links_in row) {i = j} h)

-- One turn of the loops that mark the places of tables, and of rows.
module _ (t : List ℕ) (cards : List (List ℕ)) where
  pub items-turn : (items : List ℕ) (i : ℕ) → i < length items
      → links_marked t (links_over cards (drop i items))
      ≡ links_marked (links_marked t (links_on cards (get_or items i 0))) (links_over cards (drop (i + 1) items))
  unfolding links_over
  items-turn items i h =
      rw (add-one i, drop-cons items i 0 h) (mark-append t (links_on cards (get_or items i 0)) (links_over cards (drop (suc i) items)))

  pub items-end : (items : List ℕ) (i : ℕ) → length items ≤ i → links_marked t (links_over cards (drop i items)) ≡ t
  unfolding links_over links_marked
  items-end items i h = rw (drop_of_length-le items {i = i} h)

  pub rows-turn : (p : ℕ) → p < length cards
      → links_marked t (flat (map links_in (drop p cards)))
      ≡ links_marked (links_marked t (links_in (get_or cards p []))) (flat (map links_in (drop (p + 1) cards)))
  rows-turn p h = rw (add-one p, drop-cons cards p [] h) (mark-append t (links_in (get_or cards p [])) (flat (map links_in (drop (suc p) cards))))

  pub rows_end : (p : ℕ) → length cards ≤ p → links_marked t (flat (map links_in (drop p cards))) ≡ t
  unfolding links_marked
  rows_end p h = rw (drop_of_length-le cards {i = p} h)

-- ---- tests of all links, and of all pairs

pub all_append : {A : Type 0} (test : A → Bool) (xs ys : List A) → all test (xs ++ ys) ≡ (all test xs && all test ys)
all_append test [] ys = refl
all_append test (x ∷ xs) ys = rw (all_append test xs ys) (sym (mathlib.Core.Bool.and_assoc (test x) (all test xs) (all test ys)))

module _ {A : Type 0} (test : A → A → Bool) (xs : List A) where
  pub pairs-turn : (i : ℕ) (d : A) → i < length xs
      → pairs test (drop i xs) ≡ (all (test (get_or xs i d)) (drop (i + 1) xs) && pairs test (drop (i + 1) xs))
  pairs-turn i d h = rw (add-one i, drop-cons xs i d h)

  pub pairs-fails : {whole : Bool} (i : ℕ) (d : A) → i < length xs → whole ≡ pairs test (drop i xs)
      → all (test (get_or xs i d)) (drop (i + 1) xs) ≡ false → false ≡ whole
  pairs-fails i d h inv f = sym (inv ∙ pairs-turn i d h ∙ rw f)

  pub pairs-passes : {whole : Bool} (i : ℕ) (d : A) → i < length xs → whole ≡ pairs test (drop i xs)
      → all (test (get_or xs i d)) (drop (i + 1) xs) ≡ true → whole ≡ pairs test (drop (i + 1) xs)
  pairs-passes i d h inv t = inv ∙ pairs-turn i d h ∙ rw t

-- All links of the tables, table after table.
pub all-over : (test : Link → Bool) (cards : List (List ℕ)) (items : List ℕ)
    → all test (links_over cards items) ≡ all (λ p. all test (links_on cards p)) items
unfolding links_over
all-over test cards [] = refl
all-over test cards (p ∷ items) =
    all_append test (links_on cards p) (links_over cards items) ∙ rw (all-over test cards items)

-- One turn of a loop that asks a test of all pairs of links of a row.
module _ (test : Link → Link → Bool) (row : List ℕ) {whole : Bool} (j : ℕ) (h : j < length (links_in row))
    (inv : whole ≡ pairs test (drop j (links_in row))) where
  pub own-fails : all (test (link_at row j)) (drop (j + 1) (links_in row)) ≡ false → false ≡ whole
  own-fails f = pairs-fails test (links_in row) j (link_at row j) h inv (rw (link-in row j (link_at row j) h) f)

  pub own-passes : all (test (link_at row j)) (drop (j + 1) (links_in row)) ≡ true → whole ≡ pairs test (drop (j + 1) (links_in row))
  own-passes t = pairs-passes test (links_in row) j (link_at row j) h inv (rw (link-in row j (link_at row j) h) t)
