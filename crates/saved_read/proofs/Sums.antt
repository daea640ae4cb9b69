-- The loop over rows that writes summaries: what is left to write is this row's and those behind it. Also the ways out of one row.
use Prim.Native.Nat.{ℕ, suc, ◌+◌, ◌*◌, ◌≤◌, ◌<◌}
use mathlib.Core.Path.{◌≡◌, refl, sym, ◌∙◌, ap}
use mathlib.Core.Bool.{true, false}
use mathlib.Core.List.{List, [], ◌∷◌}
use native.Mathlib.Omega.{arith}
use native.Mathlib.Numerals.{add-one}
use lib.ListN.{length, get_or, set, drop, drop_of_length-le}
use lib.Seq.{sets, drop-cons, drop-set-lt}
use Rattle.coding.proofs.Sets.{sets-all}
use Rattle.table.specs.Limits.{place_size}
use Rattle.table.specs.Table.{zeros, is_table, place_of}
use Rattle.summary.specs.Summary.{summary_words}
use Rattle.ldc.specs.Store.{is_free}
use Rattle.ldc.specs.Layout.{summary_start, card_of, table_summary}
use Rattle.ldc.specs.Lent.{places_in, chop}
use Rattle.ldc.proofs.Basics.ListLaws.{length-parts, get_or-parts}
use Rattle.ldc.proofs.Lent.Round.{chop-parts}
use Rattle.saved_book.specs.Opened.{fresh_summary, summed, summed_rows}

-- ---- one row

module _ (row bytes : List ℕ) where
  pub fresh-free : is_free (card_of row) ≡ true → zeros summary_words ≡ fresh_summary row bytes
  unfolding fresh_summary
  fresh-free f = rw f

  module _ (used : is_free (card_of row) ≡ false) where
    pub fresh-none : is_table bytes ≡ false → zeros summary_words ≡ fresh_summary row bytes
    unfolding fresh_summary
    fresh-none t = rw (used, t)

    pub fresh-table : is_table bytes ≡ true → table_summary bytes ≡ fresh_summary row bytes
    unfolding fresh_summary
    fresh-table t = rw (used, t)

-- ---- all rows

abbrev pub places_of : (area : List ℕ) → List (List ℕ)
places_of area = chop (places_in area) area

module _ (area : List ℕ) (rows : List (List ℕ)) (whole : length area ≡ length rows * place_size) where
  as_many : places_in area ≡ length rows
  unfolding places_in
  as_many = omega arith

  pub length-places : length (places_of area) ≡ length rows
  length-places = rw chop-parts (length-parts place_size (places_in area) area) ∙ as_many

  pub place_at : (p : ℕ) → p < length rows → get_or (places_of area) p [] ≡ place_of area p
  place_at p h = rw chop-parts (get_or-parts place_size (places_in area) area p (rw as_many h))

length-summed : (rows places : List (List ℕ)) → length (summed_rows rows places) ≡ length rows
length-summed [] places = refl
length-summed (row ∷ rows) [] = ap suc (length-summed rows [])
length-summed (row ∷ rows) (bytes ∷ places) = ap suc (length-summed rows places)

pub sum-start : (rows places : List (List ℕ)) → summed_rows rows places ≡ sets rows 0 (summed_rows (drop 0 rows) (drop 0 places))
sum-start rows places = sym (sets-all rows (summed_rows rows places) (length-summed rows places))

pub sum-turn : (rows places : List (List ℕ)) (p : ℕ) (words : List ℕ) → p < length rows → p < length places
    → words ≡ fresh_summary (get_or rows p []) (get_or places p [])
    → let next : List (List ℕ) = set rows p (sets (get_or rows p []) summary_start words) in
    sets rows p (summed_rows (drop p rows) (drop p places)) ≡ sets next (p + 1) (summed_rows (drop (p + 1) next) (drop (p + 1) places))
unfolding summed
sum-turn rows places p words h k e =
    rw (add-one p, drop-set-lt (suc p) rows p _ (omega arith), drop-cons rows p [] h, drop-cons places p [] k, e)

pub sum_done : (rows places : List (List ℕ)) (p : ℕ) → length rows ≤ p → sets rows p (summed_rows (drop p rows) (drop p places)) ≡ rows
sum_done rows places p h = rw (drop_of_length-le rows {i = p} h)
