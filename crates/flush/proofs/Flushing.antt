-- What the code of a flush leaves is lent of the store after it. The memory table's bytes are those of its entries, and the list of
-- level 0 has room because the store after the flush is sound.
use Prim.Native.Nat.{ℕ, ◌*◌, ◌≤◌, ◌<◌}
use mathlib.Core.Path.{◌≡◌, refl, sym, ◌∙◌, ap}
use mathlib.Core.Bool.{true, false}
use mathlib.Core.List.{List, [], ◌∷◌, ◌++◌}
use native.Mathlib.Omega.{arith}
use borrow.Author.Tests.{leb-true, leb-false, eq-eqb, ne_eqb}
use lib.Dec.{leb}
use lib.ListN.{length, set, length-append}
use lib.Seq.{sets, get_or-set_same}
use Rattle.table.specs.Limits.{place_size}
use Rattle.table.specs.Table.{count_of, table_bytes}
use Rattle.table.proofs.Entries.{length-entries}
use Rattle.ldc.specs.Lists.{is_empty}
use Rattle.ldc.specs.Layout.{most_places, length_word, length_in, items_in, table_summary}
use Rattle.ldc.specs.Store.{Store, size, level, with_level}
use Rattle.ldc.specs.Lent.{Lent, store_of, lent_of}
use Rattle.ldc.specs.Place.{place_taken, written, free_places, flushed, serve_flush}
use Rattle.ldc.proofs.Lent.Round.{level-fits}
use Rattle.ldc.proofs.Stores.Places.{taken-below}
use Rattle.ldc.proofs.Stores.Sound.{Sound}
use Rattle.ldc.proofs.Stores.TableLaws.{table_bytes-long}
use Rattle.ldc.proofs.Stores.Written.{size-written}
use Rattle.ldc.proofs.Steps.Flush.{sound-flush}
use Rattle.ldc.specs.Facts.{Shape}
use Rattle.book.specs.Place.{free_rows}
use Rattle.book.specs.Pieces.{lent}
use Rattle.read.specs.Shown.{Kept}
use Rattle.book_edit.specs.Level.{Listing, with_items}
use Rattle.book_edit.specs.Shown.{Fits, Shows}
use Rattle.book_edit.specs.Take.{Takes}
use Rattle.book_edit.proofs.Fitting.{free-shown, length-cards, listing-at, items_at, length-at, lists_at, head_at, fits-written, lists-written, shows-written}
use Rattle.book_edit.proofs.Keeping.{sound-kept, fits_kept, lent-kept, shows_kept, lists-kept, memory_kept}

empty-zero : {A : Type 0} (xs : List A) → length xs ≡ 0 → is_empty xs ≡ true
empty-zero [] h = refl
empty-zero (x ∷ xs) h = absurd (omega arith)

empty-some : {A : Type 0} (xs : List A) → (length xs ≡ 0 → ⊥) → is_empty xs ≡ false
empty-some [] h = absurd (h refl)
empty-some (x ∷ xs) h = refl

-- ---- the store after

-- Level 0 has room: all its places fit after the flush too.
module _ (s : Store) where
  flushed-zero : 1 ≤ length s.levels → level (flushed s) 0 ≡ level s 0 ++ (place_taken s ∷ [])
  unfolding flushed level written
  flushed-zero h = get_or-set_same s.levels 0 (level s 0 ++ (place_taken s ∷ [])) [] h

  flushed-size : size (flushed s) ≡ size s
  unfolding flushed size
  flushed-size = size-written s.memory s

  flush-room : Sound s → 1 ≤ length s.memory → 1 ≤ free_places s → length (level s 0) < size s
  flush-room S n f =
      let whole = level-fits (flushed s) (sound-flush s S n f) 0 in
      let zero' = ap length (flushed-zero (omega (arith, S.four))) in
      omega (arith, flushed-size, length-append (level s 0) (place_taken s ∷ []))

  level-written : level (written s.memory s) 0 ≡ level s 0
  unfolding level written
  level-written = refl

  flushed-lent : (area : List ℕ) (cards : List (List ℕ)) (words lists head memory : List ℕ)
      → Shows area cards words (written s.memory s)
      → lists ≡ (lent_of (with_level 0 (level s 0 ++ (place_taken s ∷ [])) (written s.memory s))).lists
      → head ≡ (lent_of (with_level 0 (level s 0 ++ (place_taken s ∷ [])) (written s.memory s))).head
      → memory ≡ table_bytes []
      → lent area cards lists head memory ≡ lent_of (flushed s)
  unfolding lent_of flushed
  flushed-lent area cards words lists head memory sh el eh em = λ i. lent (sh.area i) (sh.cards i) (el i) (eh i) (em i)

-- ---- the flush of kept memory

module _ (m : Lent) (sh : Shape m) (k : Kept m) where
  many : length (store_of m).memory ≡ count_of m.memory
  unfolding store_of
  many = length-entries m.memory

  pub rows-free : free_rows m.cards ≡ free_places (store_of m)
  rows-free = ap free_rows (shows_kept m sh k).cards ∙ free-shown (store_of m) (fits_kept m sh k)

  -- Empty memory.
  pub flush-empty : count_of m.memory ≡ 0 → (65 ≡ (serve_flush (store_of m)).result) × (m ≡ lent_of (serve_flush (store_of m)).store)
  unfolding serve_flush
  flush-empty h = rw (empty-zero (store_of m).memory (many ∙ h)) (refl, sym (lent-kept m sh k))

  module _ (some : count_of m.memory ≡ 0 → ⊥) where
    filled : is_empty (store_of m).memory ≡ false
    filled = empty-some (store_of m).memory (λ e. some (sym many ∙ e))

    -- No place free.
    pub flush-full : leb 1 (free_rows m.cards) ≡ false → (20 ≡ (serve_flush (store_of m)).result) × (m ≡ lent_of (serve_flush (store_of m)).store)
    unfolding serve_flush
    flush-full h =
        let none : free_places (store_of m) ≡ 0 = omega (arith, leb-false 1 (free_rows m.cards) h, rows-free) in
        rw (filled, eq-eqb (free_places (store_of m)) 0 none) (refl, sym (lent-kept m sh k))

    -- The table written, and its place behind the last of level 0.
    module _ (area' : List ℕ) (cards' : List (List ℕ)) (head' : List ℕ) (p : ℕ) (room : leb 1 (free_rows m.cards) ≡ true)
        (t : Takes m.cards m.head cards' head' p (table_summary m.memory)) (w : area' ≡ sets m.area (p * place_size) m.memory) where
      enough : 1 ≤ free_places (store_of m)
      enough = omega (arith, leb-true 1 (free_rows m.cards) room, rows-free)

      long : length (table_bytes (store_of m).memory) ≡ place_size
      long = table_bytes-long (store_of m).memory (sound-kept m sh k).memory

      after : Fits (written (store_of m).memory (store_of m))
      after = fits-written (store_of m) (fits_kept m sh k) (store_of m).memory enough long

      shown : (p ≡ place_taken (store_of m)) × Shows area' cards' head' (written (store_of m).memory (store_of m))
      shown =
          shows-written (store_of m) (fits_kept m sh k) (store_of m).memory enough long m.area area' m.cards cards' m.head head' p
          (shows_kept m sh k) (rw (memory_kept m sh k) at t) (w ∙ ap (sets m.area (p * place_size)) (memory_kept m sh k))

      counted : length cards' ≡ size (written (store_of m).memory (store_of m))
      counted = ap length shown.1.cards ∙ length-cards (written (store_of m).memory (store_of m)) after

      listed : m.lists ≡ (lent_of (written (store_of m).memory (store_of m))).lists
      listed = lists-kept m sh k ∙ sym (lists-written (store_of m) (fits_kept m sh k) (store_of m).memory enough long)

      space : length (level (store_of m) 0) < size (store_of m)
      space = flush-room (store_of m) (sound-kept m sh k) (omega (arith, many, some)) enough

      pub flush-place : p < most_places
      flush-place = omega (arith, shown.0, taken-below (store_of m) (fits_kept m sh k).turns enough, (fits_kept m sh k).most)

      pub flush-listing : Listing 0 (length cards') m.lists head' × (length_in head' 0 < length cards')
      flush-listing =
          let w' : Store = written (store_of m).memory (store_of m) in (
            listing-at w' after 0 (omega arith) (length cards') m.lists head' counted listed shown.1.head,
            omega (
              arith,
              length-at w' after 0 (omega arith) (length cards') m.lists head' counted listed shown.1.head,
              ap length (level-written (store_of m)),
              space,
              counted,
              size-written (store_of m).memory (store_of m),
            ),
          )

      module _ (lists' head'' memory' : List ℕ)
          (el : lists' ≡ with_items 0 (length cards') (items_in (length cards') m.lists head' 0 ++ p ∷ []) m.lists)
          (eh : head'' ≡ set head' (length_word 0) (length (items_in (length cards') m.lists head' 0 ++ p ∷ [])))
          (em : memory' ≡ table_bytes []) where
        items : items_in (length cards') m.lists head' 0 ++ p ∷ [] ≡ level (store_of m) 0 ++ (place_taken (store_of m) ∷ [])
        items =
            let w' : Store = written (store_of m).memory (store_of m) in
            ap (λ (xs : List ℕ). xs ++ p ∷ []) (items_at w' after 0 (omega arith) (length cards') m.lists head' counted listed shown.1.head ∙ level-written (store_of m))
            ∙ ap (λ (q : ℕ). level (store_of m) 0 ++ q ∷ []) shown.0

        pub flush-done : (0 ≡ (serve_flush (store_of m)).result) × (lent area' cards' lists' head'' memory' ≡ lent_of (serve_flush (store_of m)).store)
        unfolding serve_flush
        flush-done =
            let w' : Store = written (store_of m).memory (store_of m) in
            let ps : List ℕ = level (store_of m) 0 ++ (place_taken (store_of m) ∷ []) in
            let few : length ps ≤ size w' =
            omega (arith, length-append (level (store_of m) 0) (place_taken (store_of m) ∷ []), space, size-written (store_of m).memory (store_of m)) in
            let lists-now = el ∙ ap (λ (xs : List ℕ). with_items 0 (length cards') xs m.lists) items
            ∙ lists_at w' after 0 (omega arith) (length cards') m.lists head' counted listed shown.1.head ps few in
            let head-now = eh ∙ ap (λ (xs : List ℕ). set head' (length_word 0) (length xs)) items
            ∙ head_at w' after 0 (omega arith) (length cards') m.lists head' counted listed shown.1.head ps in
            rw (filled, ne_eqb (free_places (store_of m)) 0 (λ e. omega (arith, enough)))
            (refl, flushed-lent (store_of m) area' cards' head' lists' head'' memory' shown.1 lists-now head-now em)
