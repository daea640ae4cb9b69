-- A merge that is ready to be done, at the store that the pieces show with any memory table: tables, lists and free places do not depend on it.
use Prim.Native.Nat.{ℕ, ◌≤◌}
use mathlib.Core.Path.{◌≡◌, refl, sym, ◌∙◌, ap}
use mathlib.Core.List.{List, []}
use native.Mathlib.Omega.{arith}
use lib.ListN.{length}
use Rattle.coding.specs.Number.{Bytes}
use Rattle.ldc.specs.Store.{level}
use Rattle.ldc.specs.Layout.{head_size}
use Rattle.ldc.specs.Lent.{Lent, level_of, store_of, lent_of}
use Rattle.ldc.specs.Place.{free_places}
use Rattle.ldc.specs.Tidy.{merged_tables}
use Rattle.ldc.proofs.Stores.Sound.{Sound}
use Rattle.ldc.specs.Facts.{Shape, Merging}
use Rattle.book.specs.Pieces.{lent}
use Rattle.book_edit.specs.Shown.{Fits, Shows}
use Rattle.compact_merge.proofs.Given.{tables-shown}
use Rattle.compact_install.specs.Tables.{Tables, Placing}
use Rattle.compact_install.specs.Merge.{Backed, Merges}
use Rattle.book_edit.proofs.Keeping.{shape_of, sound-kept, fits_kept, shows_kept, lists-kept, lent-kept}
use Rattle.compact_install.proofs.Merging.{tables-merged, merge-placing}

module _ (area : List ℕ) (cards : List (List ℕ)) (lists head x y : List ℕ) where
  level-same : (n : ℕ) → level (store_of (lent area cards lists head x)) n ≡ level (store_of (lent area cards lists head y)) n
  unfolding level store_of level_of
  level-same n = refl

  tables-same : (n p : ℕ) → merged_tables (store_of (lent area cards lists head x)) n p ≡ merged_tables (store_of (lent area cards lists head y)) n p
  tables-same n p = tables-shown (lent area cards lists head x) n p ∙ sym (tables-shown (lent area cards lists head y) n p)

  free-same : free_places (store_of (lent area cards lists head x)) ≡ free_places (store_of (lent area cards lists head y))
  unfolding free_places store_of
  free-same = refl

-- What the laws of a merge want of the store.
pub record Ready (m : Lent) (n p : ℕ) (out : List ℕ) (k : ℕ) : Type 0 where
  pub sound : Sound (store_of m)
  pub fits : Fits (store_of m)
  pub merging : Merging (store_of m) n p
  pub enough : length (merged_tables (store_of m) n p) ≤ free_places (store_of m)
  pub many : length (merged_tables (store_of m) n p) ≡ k
  pub shows : Shows m.area m.cards m.head (store_of m)
  pub placing : Placing (lent m.area m.cards m.lists m.head []) n p out k (store_of m) (merged_tables (store_of m) n p)
  pub memory : m.memory ≡ (lent_of (store_of m)).memory

module _ (area : List ℕ) (cards : List (List ℕ)) (lists head : List ℕ) (n p : ℕ) (out : List ℕ) (k : ℕ) (g : Merges (lent area cards lists head) n p out k)
    (ten : length head ≡ head_size) (a : Bytes area) (memory : List ℕ) (b : Backed (lent area cards lists head memory)) where
  abbrev m : Lent
  m = lent area cards lists head memory

  shape : Shape m
  shape = shape_of m g.work.wide ten b.long b.valued a

  merging : Merging (store_of m) n p
  merging = record {
    lowest = g.merging.lowest;
    highest = g.merging.highest;
    on = rw (level-same area cards lists head memory g.work.memory n) g.merging.on;
  }

  many : length (merged_tables (store_of m) n p) ≡ k
  many = ap length (tables-same area cards lists head memory g.work.memory n p) ∙ g.many

  enough : length (merged_tables (store_of m) n p) ≤ free_places (store_of m)
  enough = omega (arith, many, g.room, free-same area cards lists head memory g.work.memory)

  told : Tables out k (merged_tables (store_of m) n p)
  told =
      tables-merged (store_of m) (sound-kept m shape b.kept) (fits_kept m shape b.kept) n p merging enough out k many
      (rw (tables-same area cards lists head memory g.work.memory n p) g.tables)

  pub ready : Ready m n p out k
  ready = record {
    sound = sound-kept m shape b.kept;
    fits = fits_kept m shape b.kept;
    merging = merging;
    enough = enough;
    many = many;
    shows = shows_kept m shape b.kept;
    placing = merge-placing (store_of m) (sound-kept m shape b.kept) (fits_kept m shape b.kept) n p merging enough (lent area cards lists head []) out k
        (record { shows = shows_kept m shape b.kept; lists = lists-kept m shape b.kept }) told;
    memory = ap (λ (z : Lent). z.memory) (sym (lent-kept m shape b.kept));
  }
