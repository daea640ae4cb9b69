-- A merge, refused or done. The tables that were built are those of the definition, so their number decides as it does there, and what
-- the first k places of the buffer hold is what is to be written.
use Prim.Native.Nat.{ℕ, ◌*◌, ◌≤◌}
use mathlib.Core.Path.{◌≡◌, refl, sym, ◌∙◌}
use mathlib.Core.Bool.{true, false}
use mathlib.Core.List.{List, [], ◌∷◌, map, Memᴰ}
use native.Mathlib.Omega.{arith}
use lib.Dec.{leb}
use lib.ListN.{length, take, length-append}
use lib.Seq.{sets}
use borrow.Author.Tests.{leb-true}
use Rattle.coding.specs.Number.{Bytes}
use Rattle.coding.proofs.Sets.{part_same}
use Rattle.table.specs.Limits.{place_size}
use Rattle.table.specs.Entry.{Entry}
use Rattle.table.specs.Table.{table_bytes}
use Rattle.table.proofs.Decode.{valid-size}
use Rattle.ldc.specs.Lists.{flat}
use Rattle.ldc.specs.Lent.{Lent, store_of, lent_of}
use Rattle.ldc.specs.Place.{free_places}
use Rattle.ldc.specs.Tidy.{refused, merged, merged_tables, merge_step}
use Rattle.ldc.specs.Steps.{do_merge}
use Rattle.book.specs.Place.{free_rows}
use Rattle.read.specs.Shown.{Tabled, Legible}
use Rattle.compact_merge.specs.Merge.{merge_tables, tables_out, bytes_out}
use Rattle.compact_merge.proofs.Merged.{tables-few}
use Rattle.compact_merge.proofs.Given.{tables-shown, tables-valid}
use Rattle.book.specs.declared.head.Head.{Head}
use Rattle.compact.specs.Tidied.{Does}
use Rattle.compact.proofs.Given.{free-by}

-- ---- the buffer

length-out : (ts : List (List Entry)) → ((t : List Entry) → Memᴰ t ts → length (table_bytes t) ≡ place_size) → length (bytes_out ts) ≡ length ts * place_size
unfolding bytes_out
length-out [] h = refl
length-out (t ∷ ts) h =
    omega (arith, length-append (table_bytes t) (bytes_out ts), h t (Memᴰ.head refl), length-out ts (λ x m. h x (Memᴰ.tail m)))

module _ (m : Lent) (g : Legible m.area m.cards) (bytes : Bytes m.area) (n p : ℕ) (t : Tabled m.area p) where
  abbrev ts : List (List Entry)
  ts = tables_out m.area m.cards m.lists m.head n p

  long : length (bytes_out ts) ≡ length ts * place_size
  long = length-out ts (λ es x. valid-size es (tables-valid m.area m.cards g bytes m.lists m.head n p t es x).valid)

  pub few : (k : ℕ) → k ≡ length (tables_out m.area m.cards m.lists m.head n p) → k ≤ merge_tables
  few k e = omega (arith, tables-few m.area m.cards g bytes m.lists m.head n p t)

  -- What was built are the tables of the definition.
  pub built : (before : List ℕ) (k : ℕ) → length before ≡ merge_tables * place_size → k ≡ length (tables_out m.area m.cards m.lists m.head n p)
      → take (k * place_size) (sets before 0 (bytes_out (tables_out m.area m.cards m.lists m.head n p))) ≡ flat (map table_bytes (merged_tables (store_of m) n p))
  unfolding bytes_out
  built before k whole e =
      let size : k * place_size ≡ length (bytes_out ts) = omega (arith, long, e) in
      rw (tables-shown m n p, size)
      (part_same before 0 (bytes_out ts) (omega (arith, long, tables-few m.area m.cards g bytes m.lists m.head n p t)))

pub many : (m : Lent) (n p k : ℕ) → k ≡ length (tables_out m.area m.cards m.lists m.head n p) → length (merged_tables (store_of m) n p) ≡ k
many m n p k e = rw (tables-shown m n p) (sym e)

-- ---- refused or done

module _ (m : Lent) (n p k : ℕ) (e : k ≡ length (tables_out m.area m.cards m.lists m.head n p)) where
  pub roomy : leb k (free_rows m.cards) ≡ true → k ≤ free_places (store_of m)
  roomy q = rw (← (free-by m)) (leb-true k (free_rows m.cards) q)

  pub step-refused : leb k (free_rows m.cards) ≡ false → merge_step (store_of m) n p ≡ refused
  unfolding merge_step
  step-refused q = rw (many m n p k e, ← (free-by m), q)

  pub step-done : leb k (free_rows m.cards) ≡ true → merge_step (store_of m) n p ≡ merged n p
  unfolding merge_step
  step-done q = rw (many m n p k e, ← (free-by m), q)

  -- What the code gives in both cases.
  module _ (after : Lent) (head : Head) where
    pub does-refused : leb k (free_rows m.cards) ≡ false → lent_of (store_of m) ≡ m → after ≡ m
        → Does m (merge_step (store_of m) n p) after record { result = 20; step = 0; level = 0; head = head }
    does-refused q same left = rw (step-refused q) (record { result = refl; body = refl; left = left ∙ sym same })

    pub does-merged : leb k (free_rows m.cards) ≡ true → after ≡ lent_of (do_merge n p (store_of m))
        → Does m (merge_step (store_of m) n p) after record { result = 0; step = 3; level = n; head = head }
    does-merged q left = rw (step-done q) (record { result = refl; body = refl; left = left })
