-- What making a store leaves is what the definition gives: good sizes cut the area into whole places, and a new store's book is zero
-- but for the threshold and the head of the empty memory table.
use Prim.Native.Nat.{ℕ, zero, suc, ◌+◌, ◌*◌, ◌/◌, ◌%◌, ◌<◌}
use mathlib.Core.Path.{◌≡◌, refl, sym, ◌∙◌, ap}
use mathlib.Core.Bool.{true, false, ◌&&◌}
use mathlib.Core.List.{List, [], ◌∷◌, ◌++◌, map}
use native.Mathlib.Omega.{arith}
use native.Mathlib.Nat.{sub-zero}
use native.Mathlib.Numerals.{add-one}
use lib.Dec.{leb, eqb}
use lib.ListN.{length, replicate, set, drop}
use lib.Seq.{sets, drop-cons, drop-set-lt}
use Rattle.table.specs.Limits.{place_size}
use Rattle.table.specs.Table.{zeros, table_bytes}
use Rattle.table.proofs.Zeros.{zeros-add}
use Rattle.ldc.specs.Lists.{flat}
use Rattle.ldc.specs.Store.{free, new_store}
use Rattle.ldc.specs.Rules.{threshold_good}
use Rattle.ldc.specs.Lent.{Lent, places_in, sizes_good, chop, lent_of}
use Rattle.ldc.specs.Run.{make}
use Rattle.ldc.proofs.Basics.ListLaws.{length-parts, flat-parts}
use Rattle.ldc.proofs.Lent.Parts.{padded}
use Rattle.ldc.proofs.Lent.Round.{chop-parts}
use Rattle.ldc.proofs.Lent.Shows.{sizes}
use Rattle.summary.specs.Summary.{summary_words}
use Rattle.ldc.specs.Layout.{row_with, row_of, rows_of, most_places, fewest_places, level_count}
use Rattle.book.specs.Made.{made, all_free}
use Rattle.book.specs.Pieces.{lent}

-- ---- sizes

-- Sizes are good by their numbers alone.
pub sizes-by : (m : Lent) (area cards lists : ℕ) → length m.area ≡ area → length m.cards ≡ cards → length m.lists ≡ lists
    → eqb (area % place_size) 0
    && (leb fewest_places (area / place_size)
    && (leb (area / place_size) most_places && (eqb cards (area / place_size) && eqb lists (level_count * (area / place_size)))))
    ≡ sizes_good m
unfolding sizes_good places_in
sizes-by m area cards lists a b d = rw (a, b, d)

-- ---- the pieces of a new store's memory

pub free-rows : (places rows : List (List ℕ)) → length rows ≡ length places → rows_of (map (λ _. free) places) places ≡ all_free rows
unfolding all_free row_of
free-rows [] [] h = refl
free-rows [] (r ∷ rows) h = absurd (omega arith)
free-rows (p ∷ places) [] h = absurd (omega arith)
free-rows (p ∷ places) (r ∷ rows) h = ap (λ rs. row_with free (zeros summary_words) ∷ rs) (free-rows places rows (omega arith))

four-zeros : (n : ℕ) → zeros n ++ (zeros n ++ (zeros n ++ (zeros n ++ []))) ≡ zeros (4 * n)
unfolding zeros
four-zeros n =
    let e : 4 * n ≡ n + (n + (n + (n + 0))) = omega arith in
    rw (e, zeros-add n (n + (n + (n + 0))), zeros-add n (n + (n + 0)), zeros-add n (n + 0), zeros-add n 0)

pub empty-lists : (n : ℕ) → flat (map (padded n) ([] ∷ [] ∷ [] ∷ [] ∷ [])) ≡ zeros (4 * n)
empty-lists n = rw sub-zero (four-zeros n)

module _ (m : Lent) (t : ℕ) where
  -- Refused for sizes, and for the threshold.
  pub refused-1 : sizes_good m ≡ false → made 1 m ≡ make m t
  unfolding make
  refused-1 h = rw h

  module _ (good : sizes_good m ≡ true) where
    pub refused-2 : threshold_good t ≡ false → made 2 m ≡ make m t
    unfolding make
    refused-2 h = rw (good, h)

    -- Otherwise the area stays, all places are free, lists and memory empty.
    pub new-lent : lent_of (new_store t (chop (places_in m.area) m.area))
        ≡ lent m.area (all_free m.cards) (zeros (length m.lists)) (t ∷ zeros 9) (table_bytes [])
    unfolding lent_of new_store zeros
    new-lent =
        let z = sizes m good in
        let n = places_in m.area in
        let long : length (chop n m.area) ≡ n = rw chop-parts (length-parts place_size n m.area) in
        let area : flat (chop n m.area) ≡ m.area = rw chop-parts (flat-parts place_size n m.area z.area) in
        let cards : rows_of (map (λ _. free) (chop n m.area)) (chop n m.area) ≡ all_free m.cards =
        free-rows (chop n m.area) m.cards (z.cards ∙ sym long) in
        let lists : flat (map (padded (length (chop n m.area))) ([] ∷ [] ∷ [] ∷ [] ∷ [])) ≡ zeros (length m.lists) =
        rw (long, z.lists) (empty-lists n) in
        λ i. lent (area i) (cards i) (lists i) (t ∷ zeros 9) (table_bytes [])

    pub new-made : threshold_good t ≡ true
        → made 0 (lent m.area (all_free m.cards) (zeros (length m.lists)) (t ∷ zeros 9) (table_bytes [])) ≡ make m t
    unfolding make
    new-made h = rw (good, h) (ap (made 0) (sym new-lent))

-- Pieces that are equal make the same memory.
pub lent_same : (area : List ℕ) {cards rows : List (List ℕ)} {lists items head words memory bytes : List ℕ}
    → cards ≡ rows → lists ≡ items → head ≡ words → memory ≡ bytes
    → lent area cards lists head memory ≡ lent area rows items words bytes
lent_same area c l h m = λ i. lent area (c i) (l i) (h i) (m i)

-- A blank array.
pub blank : (n : ℕ) → replicate n 0 ≡ zeros n
unfolding zeros
blank zero = refl
blank (suc n) = rw (blank n)

-- What is left to be made free is this row and those behind it.
pub free-all-turn : (rows : List (List ℕ)) (i : ℕ) → i < length rows
    → sets rows i (all_free (drop i rows))
    ≡ sets (set rows i (row_with free (zeros summary_words))) (i + 1) (all_free (drop (i + 1) (set rows i (row_with free (zeros summary_words)))))
unfolding all_free
free-all-turn rows i h =
    rw (add-one i, drop-set-lt (suc i) rows i (row_with free (zeros summary_words)) (omega arith), drop-cons rows i [] h)
