-- What a saved book is good for, said of the calls. Bytes saved from a sound store open again, over the same places or more, and show what was
-- saved; bytes that open over as many places as they name are those that saving the opened store writes, so that no book has two.
-- The store as opened is the one saved, grown over the other places (`Grows`); its memory breaks no rule, and its pieces are those that were lent.
use Prim.Native.Nat.{ℕ, ◌-◌, ◌≤◌, ◌<◌}
use mathlib.Core.Path.{◌≡◌, refl, sym, ◌∙◌, ap}
use mathlib.Core.Bool.{Bool, true, false, cond}
use mathlib.Core.List.{List, [], ◌++◌, append-nil}
use native.Mathlib.Omega.{arith}
use borrow.Author.Tests.{le-ltb}
use lib.Dec.{ltb}
use lib.ListN.{length, get_or, replicate}
use Rattle.coding.specs.Number.{Bytes}
use Rattle.table.specs.Limits.{place_size}
use Rattle.table.specs.Table.{zeros}
use Rattle.summary.specs.Summary.{summary_words}
use Rattle.ldc.specs.Lists.{flat, is_empty}
use Rattle.ldc.specs.Store.{Store, free, size, card, is_free, bytes_at}
use Rattle.ldc.specs.Layout.{level_count, row_with, rows_of}
use Rattle.ldc.specs.Lent.{Lent, places_in, chop, sizes_good, level_of, store_of, lent_of, broken}
use Rattle.ldc.specs.Facts.{Shape}
use Rattle.ldc.specs.Run.{accepted, wrong_sizes, unsound, not_a_book, fewer_places}
use Rattle.ldc.proofs.Basics.ListLaws.{Each, empty-list, length-parts, each_part, flat-parts}
use Rattle.ldc.proofs.Lent.Round.{chop-parts, level-lent_of}
use Rattle.ldc.proofs.Lent.Rules.{kept-lent_of}
use Rattle.ldc.proofs.Lent.Shows.{sizes, size-store_of, whole-store_of, sound-store_of, lent_of-store_of}
use Rattle.ldc.proofs.Stores.Fits.{Fits}
use Rattle.ldc.proofs.Stores.Sound.{Sound, Whole}
use Rattle.saved_book.specs.Saved.{saved_bytes}
use Rattle.saved_book.specs.Form.{places_saved, saved_form}
use Rattle.saved_book.specs.Opened.{opened_over, grown_over}
use Rattle.saved_book.specs.Calls.{Opening, opening, open_book}
use Rattle.saved_book.proofs.Summed.{rows_grown}
use Rattle.saved_book.proofs.Decode.{saved-form, saved-places, saved-opened}
use Rattle.saved_book.proofs.Grows.{Holding, grown-level, grown-sound, grown-whole}
use Rattle.saved_book.proofs.Resaved.{resaved}

-- ---- the places of lent memory

abbrev pub places_of : Lent → List (List ℕ)
places_of m = chop (places_in m.area) m.area

pub bytes-shown : (m : Lent) (p : ℕ) → bytes_at (store_of m) p ≡ get_or (places_of m) p []
unfolding bytes_at store_of
bytes-shown m p = refl

pub length-places : (m : Lent) → length (places_of m) ≡ places_in m.area
length-places m = rw chop-parts (length-parts place_size (places_in m.area) m.area)

module _ (m : Lent) (z : sizes_good m ≡ true) where
  pub each-place : Each place_size (places_of m)
  each-place = rw chop-parts (each_part place_size (places_in m.area) m.area (sizes m z).area)

  pub flat-places : flat (places_of m) ≡ m.area
  flat-places = rw chop-parts (flat-parts place_size (places_in m.area) m.area (sizes m z).area)

-- ---- opening what was saved

module _ (s : Store) (S : Sound s) (F : Fits s) (onto : Lent) (z : sizes_good onto ≡ true) (h : Holding (places_of onto) s) where
  pub opened-sound : Sound (grown_over (places_of onto) s)
  opened-sound = grown-sound s (places_of onto) S h

  pub opened-shows : opened_over onto.area (saved_bytes s) ≡ lent_of (grown_over (places_of onto) s)
  opened-shows =
      ap (λ (area : List ℕ). opened_over area (saved_bytes s)) (sym (flat-places onto z))
      ∙ saved-opened s S F (places_of onto) (each-place onto z) opened-sound

  pub opened-whole : Whole (grown_over (places_of onto) s)
  opened-whole = grown-whole s (places_of onto) S h (each-place onto z)

  pub opened-kept : broken (lent_of (grown_over (places_of onto) s)) ≡ []
  opened-kept = kept-lent_of (grown_over (places_of onto) s) opened-sound opened-whole

  pub opens : open_book onto (saved_bytes s) ≡ opening accepted (lent_of (grown_over (places_of onto) s))
  unfolding open_book
  opens =
      let enough : size s ≤ places_in onto.area = omega (arith, h.enough, length-places onto) in
      rw (z, saved-form s S F, saved-places s S F, le-ltb (places_in onto.area) (size s) enough, opened-shows, opened-kept)

-- Lent memory with another area.
unfoldable pub with_area : List ℕ → Lent → Lent
with_area area m = record { area = area; cards = m.cards; lists = m.lists; head = m.head; memory = m.memory }

-- What opening over more places gives: the cards saved, and free ones behind them; lists, head and memory as they were; and no rule is broken.
pub record OpensGrown (m onto : Lent) (o : Opening) : Type 0 where
  pub number : o.number ≡ accepted
  pub area : o.lent.area ≡ onto.area
  pub cards : o.lent.cards ≡ m.cards ++ replicate (places_in onto.area - places_in m.area) (row_with free (zeros summary_words))
  pub lists : (n : ℕ) → n < level_count → level_of o.lent n ≡ level_of m n
  pub head : o.lent.head ≡ m.head
  pub memory : o.lent.memory ≡ m.memory
  pub sound : broken o.lent ≡ []

module _ (m onto : Lent) (sh : Shape m) (z : sizes_good m ≡ true) (k : broken m ≡ []) (fi : Fits (store_of m)) (zo : sizes_good onto ≡ true)
    (more : places_in m.area ≤ places_in onto.area)
    (held : (p : ℕ) → is_free (card (store_of m) p) ≡ false → bytes_at (store_of onto) p ≡ bytes_at (store_of m) p) where
  so : Sound (store_of m)
  so = sound-store_of m sh z k

  back : lent_of (store_of m) ≡ m
  back = lent_of-store_of m sh z k

  grown : Store
  grown = grown_over (places_of onto) (store_of m)

  holding : Holding (places_of onto) (store_of m)
  holding = record {
    enough = omega (arith, size-store_of m z, length-places onto);
    most = omega (arith, length-places onto, (sizes onto zo).most);
    bytes = λ p not-Free. sym (bytes-shown onto p) ∙ held p not-Free;
  }

  opened : open_book onto (saved_bytes (store_of m)) ≡ opening accepted (lent_of grown)
  unfolding grown
  opened = opens (store_of m) so fi onto zo holding

  grown-cards : (lent_of grown).cards ≡ m.cards ++ replicate (places_in onto.area - places_in m.area) (row_with free (zeros summary_words))
  unfolding grown lent_of grown_over card bytes_at
  grown-cards =
      let same : rows_of (store_of m).cards (store_of m).places ≡ m.cards = ap (λ (x : Lent). x.cards) back in
      rw (
        rows_grown (store_of m).cards (length (places_of onto) - size (store_of m)) (places_of onto) (store_of m).places holding.bytes,
        same,
        length-places onto,
        size-store_of m z,
      )

  grown-lists : (n : ℕ) → n < level_count → level_of (lent_of grown) n ≡ level_of m n
  unfolding grown
  grown-lists n h =
      level-lent_of grown (opened-sound (store_of m) so fi onto zo holding) (opened-whole (store_of m) so fi onto zo holding) n h
      ∙ grown-level (store_of m) (places_of onto) n
      ∙ sym (level-lent_of (store_of m) so (whole-store_of m z) n h)
      ∙ ap (λ (x : Lent). level_of x n) back

  grown-head : (lent_of grown).head ≡ m.head
  unfolding grown lent_of grown_over
  grown-head = ap (λ (x : Lent). x.head) back

  grown-memory : (lent_of grown).memory ≡ m.memory
  unfolding grown lent_of grown_over
  grown-memory = ap (λ (x : Lent). x.memory) back

  grown-area : (lent_of grown).area ≡ onto.area
  unfolding grown lent_of grown_over
  grown-area = flat-places onto zo

  grown-kept : broken (lent_of grown) ≡ []
  unfolding grown
  grown-kept = opened-kept (store_of m) so fi onto zo holding

  -- Over as many places or more, what is not free holding its bytes: the store is opened, the added places free.
  pub open_more : OpensGrown m onto (open_book onto (saved_bytes (store_of m)))
  open_more = rw opened
      record {
        number = refl;
        area = grown-area;
        cards = grown-cards;
        lists = grown-lists;
        head = grown-head;
        memory = grown-memory;
        sound = grown-kept;
      }

  -- Over as many: the book is just what it was.
  module _ (e : places_in onto.area ≡ places_in m.area) where
    same-cards : (lent_of grown).cards ≡ m.cards
    same-cards =
        let none : places_in onto.area - places_in m.area ≡ 0 = omega arith in
        grown-cards ∙ rw none (append-nil m.cards)

    same_lists : (lent_of grown).lists ≡ m.lists
    unfolding grown lent_of grown_over
    same_lists =
        let many : length (places_of onto) ≡ length (store_of m).places =
        length-places onto ∙ e ∙ sym (unfold store_of in length-places m) in
        rw many (ap (λ (x : Lent). x.lists) back)

    same-book : lent_of grown ≡ with_area onto.area m
    unfolding with_area
    same-book i = record { area = grown-area i; cards = same-cards i; lists = same_lists i; head = grown-head i; memory = grown-memory i }

    pub open-saved : open_book onto (saved_bytes (store_of m)) ≡ opening accepted (with_area onto.area m)
    open-saved = opened ∙ ap (λ (x : Lent). opening accepted x) same-book

-- ---- saving what was opened

-- What an opening that gives 0 tells.
pub record Accepts (m : Lent) (b : List ℕ) : Type 0 where
  pub form : saved_form b ≡ true
  pub kept : broken (opened_over m.area b) ≡ []
  pub lent : (open_book m b).lent ≡ opened_over m.area b

-- A test is passed where failing it gives a number that it did not give.
passed : (test : Bool) (yes' no' : Opening) → (cond test yes' no').number ≡ accepted → 1 ≤ no'.number → test ≡ true
passed true yes' no' h some' = refl
passed false yes' no' h some' = absurd (omega arith)

failed : (test : Bool) (yes' no' : Opening) → (cond test yes' no').number ≡ accepted → 1 ≤ yes'.number → test ≡ false
failed true yes' no' h some' = absurd (omega arith)
failed false yes' no' h some' = refl

pub accepts : (m : Lent) (b : List ℕ) → (open_book m b).number ≡ accepted → Accepts m b
unfolding open_book
accepts m b h =
    let z : sizes_good m ≡ true = passed (sizes_good m) _ (opening wrong_sizes m) h (omega arith) in
    let h1 = rw z at h in
    let form : saved_form b ≡ true = passed (saved_form b) _ (opening not_a_book m) h1 (omega arith) in
    let h2 = rw form at h1 in
    let few = failed (ltb (places_in m.area) (places_saved b)) (opening fewer_places m) _ h2 (omega arith) in
    let h3 = rw few at h2 in
    let kept = passed (is_empty (broken (opened_over m.area b))) _ (opening unsound m) h3 (omega arith) in
    record { form = form; kept = empty-list (broken (opened_over m.area b)) kept; lent = rw (z, form, few, kept) }

-- Bytes that open over as many places as they name are just those that saving the opened store writes.
pub saved-open : (m : Lent) (b : List ℕ) → Bytes b → (open_book m b).number ≡ accepted → places_in m.area ≡ places_saved b
    → saved_bytes (store_of (open_book m b).lent) ≡ b
saved-open m b by h many =
    let a = accepts m b h in
    rw a.lent (resaved m.area b by a.form many a.kept)

-- So a book has one string of bytes.
pub one-book : (m n : Lent) (a b : List ℕ) → Bytes a → Bytes b
    → (open_book m a).number ≡ accepted → places_in m.area ≡ places_saved a
    → (open_book n b).number ≡ accepted → places_in n.area ≡ places_saved b
    → (open_book m a).lent ≡ (open_book n b).lent → a ≡ b
one-book m n a b by-a by-b ha ea hb eb same =
    sym (saved-open m a by-a ha ea) ∙ ap (λ (x : Lent). saved_bytes (store_of x)) same ∙ saved-open n b by-b hb eb
