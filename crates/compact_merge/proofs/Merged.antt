-- The entries that come out of a merge are rising, valid and at most as many as are read, so that at most `merge_tables` tables come out; and the
-- tables, one by one.
use Prim.Native.Nat.{ℕ, ◌*◌, zero, suc, ◌≤◌, ◌^◌}
use mathlib.Core.Path.{◌≡◌, refl, ap}
use mathlib.Core.Bool.{Bool}
use mathlib.Core.List.Memᴰ
use mathlib.Core.List.{List, [], ◌∷◌}
use native.Mathlib.Omega.{arith}
use lib.ListN.{length, take, drop, length-drop}
use Rattle.coding.specs.Number.{Bytes}
use Rattle.table.specs.Limits.{table_limit, place_size}
use Rattle.table.specs.Entry.{Entry}
use Rattle.table.specs.Table.{table_bytes}
use Rattle.table.specs.Valid.{Keys, Values}
use Rattle.table.proofs.Decode.{valid-size}
use Rattle.ldc.specs.Lists.{keep}
use Rattle.ldc.specs.Store.{card, links, bytes_at, table, slice, sources}
use Rattle.ldc.specs.Lent.{store_of}
use Rattle.ldc.specs.Read.{gather}
use Rattle.ldc.specs.Tidy.{cut_in, cut, comes_out, merged_entries, merged_tables}
use Rattle.ldc.proofs.Entries.Cut.{cut-pieces, cut-few}
use Rattle.ldc.proofs.Entries.Few.{keep-few, gather-few, valid-keys, valid-values}
use Rattle.ldc.proofs.Entries.Keys.{keys-gather, keys-keep, values-gather, values-keep}
use Rattle.read.specs.Shown.{Tabled, Legible}
use Rattle.compact_merge.specs.Merge.{merge_tables, store_in, merged_in, tables_out}
use Rattle.compact_merge.proofs.Sources.{sources-valid, sources-few}
use Rattle.book.specs.Rows.{shown_by}

-- ---- cutting

-- What bounds the number of tables does not matter where it is enough.
cut-bound : (n m : ℕ) (es : List Entry) → length es ≤ n → length es ≤ m → cut_in n es ≡ cut_in m es
cut-bound zero zero es h k = refl
cut-bound zero (suc m) [] h k = refl
cut-bound zero (suc m) (e ∷ es) h k = absurd (omega arith)
cut-bound (suc n) zero [] h k = refl
cut-bound (suc n) zero (e ∷ es) h k = absurd (omega arith)
cut-bound (suc n) (suc m) [] h k = refl
cut-bound (suc n) (suc m) (e ∷ es) h k =
    ap (λ (ts : List (List Entry)). take table_limit (e ∷ es) ∷ ts)
    (cut-bound n m (drop table_limit (e ∷ es)) (simp length-drop (omega arith)) (simp length-drop (omega arith)))

-- One table, and those behind it.
pub cut-turn : (es : List Entry) → 1 ≤ length es → cut es ≡ take table_limit es ∷ cut (drop table_limit es)
unfolding cut
cut-turn [] h = absurd (omega arith)
cut-turn (e ∷ es) h =
    ap (λ (ts : List (List Entry)). take table_limit (e ∷ es) ∷ ts)
    (cut-bound (length es) (length (drop table_limit (e ∷ es))) (drop table_limit (e ∷ es)) (simp length-drop (omega arith)) (omega arith))

pub cut-none : cut [] ≡ []
unfolding cut
cut-none = refl

-- A table of valid entries fills its place.
pub piece-long : (es : List Entry) → Keys 0 (2 ^ 64) es → Values es → 1 ≤ length es → length (table_bytes (take table_limit es)) ≡ place_size
piece-long es k v h =
    valid-size (take table_limit es) (cut-pieces es k v (take table_limit es) (rw (cut-turn es h) (Memᴰ.head refl))).valid

-- ---- what comes out

pub tables-cut : (area : List ℕ) (cards : List (List ℕ)) (lists head : List ℕ) (n p : ℕ)
    → tables_out area cards lists head n p ≡ cut (merged_in area cards lists head n p)
unfolding merged_tables
tables-cut area cards lists head n p = refl

module _ (area : List ℕ) (cards : List (List ℕ)) (g : Legible area cards) (b : Bytes area) (lists head : List ℕ) (n p : ℕ) (t : Tabled area p) where
  abbrev test : Entry → Bool
  test = comes_out (store_in area cards lists head) n

  -- The lists do not say what is read of a table.
  pub merged_by : merged_in area cards lists head n p ≡ keep (comes_out (store_in area cards lists head) n) (gather (sources (shown_by area cards) p))
  unfolding merged_entries sources slice table links card bytes_at store_of
  merged_by = refl

  abbrev ss : List (List Entry)
  ss = sources (shown_by area cards) p

  pub merged-rising : Keys 0 (2 ^ 64) (merged_in area cards lists head n p)
  merged-rising = rw merged_by (keys-keep 0 (2 ^ 64) test (gather ss) (keys-gather 0 (2 ^ 64) ss (valid-keys ss (sources-valid area cards g b p t))))

  pub merged-values : Values (merged_in area cards lists head n p)
  merged-values = rw merged_by (values-keep test (gather ss) (values-gather ss (valid-values ss (sources-valid area cards g b p t))))

  merged-few : length (merged_in area cards lists head n p) ≤ merge_tables * table_limit
  merged-few =
      rw merged_by
      (omega (arith, keep-few test (gather ss), gather-few ss (sources-valid area cards g b p t), sources-few area cards g b p t))

  -- At most so many tables come out.
  pub tables-few : length (tables_out area cards lists head n p) ≤ merge_tables
  unfolding merged_tables
  tables-few = omega (arith, merged-few, cut-few (merged_in area cards lists head n p))
