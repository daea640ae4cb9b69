-- Links' numbers against a table's entry count: one turn of the walk that takes them off it, and the cases of a due table.
use Prim.Native.Nat.{ℕ, zero, suc, ◌+◌, ◌-◌, ◌≤◌, ◌<◌}
use mathlib.Core.Path.{◌≡◌, refl, sym, ◌∙◌, ap}
use mathlib.Core.List.{List, [], ◌∷◌}
use mathlib.Core.Bool.{true, false}
use native.Mathlib.Omega.{arith}
use borrow.Author.Tests.{leb-true, leb-false, le-leb, lt-leb, ne_eqb}
use lib.Dec.{leb, eqb}
use lib.ListN.{length, drop}
use Rattle.table.specs.Entry.{Entry}
use Rattle.ldc.specs.Lists.{is_empty}
use Rattle.ldc.specs.Store.{Link}
use Rattle.ldc.specs.Layout.{link_at}
use Rattle.ldc.specs.Tidy.{weight, due_with}
use Rattle.ldc.proofs.Basics.Cases.{cases}
use Rattle.book.specs.Row.{links_in}
use Rattle.book.proofs.Rows.{links-cons}

-- ---- the walk

-- A number above nought is taken off both sides.
taken-off : (left number rest : ℕ) → number < left → leb left (number + rest) ≡ leb (left - number) rest
taken-off left number rest h =
    cases (leb (left - number) rest)
    (λ q. let l : left - number ≤ rest = leb-true (left - number) rest q in rw q (le-leb left (number + rest) (omega arith)))
    (λ q. let l : rest < left - number = leb-false (left - number) rest q in rw q (lt-leb left (number + rest) (omega arith)))

-- At nought nothing more has to be taken off.
pub nothing_left : (left : ℕ) → leb left 0 ≡ eqb left 0
nothing_left zero = refl
nothing_left (suc n) = lt-leb (suc n) 0 (omega arith) ∙ sym (ne_eqb (suc n) 0 (λ e. omega arith))

module _ (row : List ℕ) (j : ℕ) (left : ℕ) where
  weight-cons : j < length (links_in row) → weight (drop j (links_in row)) ≡ (link_at row j).number + weight (drop (j + 1) (links_in row))
  weight-cons h = ap weight (links-cons row j h)

  pub weighs-here : j < length (links_in row) → left ≤ (link_at row j).number → leb left (weight (drop j (links_in row))) ≡ true
  weighs-here h l = le-leb left (weight (drop j (links_in row))) (omega (arith, weight-cons h))

  pub weighs-turn : j < length (links_in row) → (link_at row j).number < left
      → leb left (weight (drop j (links_in row))) ≡ leb (left - (link_at row j).number) (weight (drop (j + 1) (links_in row)))
  weighs-turn h l = rw (weight-cons h) (taken-off left (link_at row j).number (weight (drop (j + 1) (links_in row))) l)

-- ---- a due table

module _ (t : ℕ) (ls : List Link) (es : List Entry) where
  pub due-links : t ≤ length ls → due_with t ls es ≡ true
  unfolding due_with
  due-links h = rw (le-leb t (length ls) h)

  pub due-weight : length ls < t → due_with t ls es ≡ leb (length es) (weight ls)
  unfolding due_with
  due-weight h = rw (lt-leb t (length ls) h)

-- A table without links weighs nothing, and has entries.
pub due-bare : (t : ℕ) (ls : List Link) (es : List Entry) → length ls < t → length ls ≡ 0 → 1 ≤ length es → due_with t ls es ≡ false
due-bare t [] es h e some = due-weight t [] es h ∙ lt-leb (length es) 0 (omega arith)
due-bare t (l ∷ ls) es h e some = absurd (omega arith)

-- A count of nought is that of no links.
pub empty-count : (ls : List Link) → eqb (length ls) 0 ≡ is_empty ls
empty-count [] = refl
empty-count (l ∷ ls) = ne_eqb (suc (length ls)) 0 (λ e. omega arith)
