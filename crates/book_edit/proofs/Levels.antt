-- A level's list in its part of the lent lists: what the writes leave of a part that has the list and zeros behind it.
use Prim.Native.Nat.{ℕ, suc, ◌+◌, ◌*◌, ◌-◌, ◌≤◌, ◌<◌}
use mathlib.Core.Path.{◌≡◌, sym, ◌∙◌, ap}
use mathlib.Core.List.{List, [], ◌∷◌, ◌++◌}
use native.Mathlib.Omega.{arith}
use lib.ListN.{length, set, length-append, length-drop}
use lib.Seq.{length-take-le}
use Rattle.coding.proofs.Sets.{length_part}
use Rattle.ldc.specs.Steps.{replaced}
use Rattle.ldc.proofs.Lent.Parts.{padded}
use Rattle.ldc.specs.Layout.{items_in, part_in, length_in}
use Rattle.book.specs.Level.{index_of, spliced}
use Rattle.std.specs.Prelude.{Some}
use Rattle.book.proofs.Levels.{append-padded, replaced-padded, index-stands}
use Rattle.book_edit.specs.Level.{Listing}

-- A list with its i-th item replaced by several has that many more, less one.
pub length-replaced : (p i : ℕ) (items ps : List ℕ) → index_of p ps ≡ Some i
    → (i < length ps) × (length (replaced p items ps) ≡ length ps + length items - 1)
length-replaced p i items ps h =
    let s = index-stands p i ps h in
    let front = length-take-le i ps (omega (arith, s.within)) in
    (s.within, ap length (s.other items) ∙ rw (length-append, length-append, length-drop) (omega (arith, s.within)))

module _ (n size : ℕ) (lists words : List ℕ) (l : Listing n size lists words) where
  pub part-long : length (part_in size lists n) ≡ size
  part-long = length_part lists (n * size) size l.within

  pub items-long : length (items_in size lists words n) ≡ length_in words n
  items-long = length-take-le (length_in words n) (part_in size lists n) (omega (arith, part-long, l.fits))

  pub part-padded : part_in size lists n ≡ padded size (items_in size lists words n)
  part-padded = rw items-long l.rest

  -- One item more behind the last.
  pub part-joined : (p : ℕ) → length_in words n < size
      → set (part_in size lists n) (length_in words n) p ≡ padded size (items_in size lists words n ++ p ∷ [])
  part-joined p h =
      ap (λ (xs : List ℕ). set xs (length_in words n) p) part-padded
      ∙ ap (λ (k : ℕ). set (padded size (items_in size lists words n)) k p) (sym items-long)
      ∙ append-padded size p (items_in size lists words n) (omega (arith, items-long))

  -- One item replaced by several.
  pub part-replaced : (p i : ℕ) (items : List ℕ) → index_of p (items_in size lists words n) ≡ Some i → length_in words n + length items ≤ suc size
      → spliced i (length_in words n) items (part_in size lists n) ≡ padded size (replaced p items (items_in size lists words n))
  part-replaced p i items h room =
      ap (λ (xs : List ℕ). spliced i (length_in words n) items xs) part-padded
      ∙ ap (λ (k : ℕ). spliced i k items (padded size (items_in size lists words n))) (sym items-long)
      ∙ replaced-padded size p i items (items_in size lists words n) h (omega (arith, items-long, l.fits)) (omega (arith, items-long))
