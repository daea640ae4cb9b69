-- The pieces of a store that fits: rows show its cards, parts of the lists its levels. What one write leaves of the pieces is lent of the
-- store after it.
use Prim.Native.Nat.{ℕ, ◌*◌, ◌≤◌, ◌<◌}
use mathlib.Core.Path.{◌≡◌, refl, sym, ◌∙◌, ap}
use mathlib.Core.List.{List, [], map, Memᴰ}
use mathlib.Core.Option.{none}
use native.Mathlib.Omega.{arith}
use native.Mathlib.Nat.{suc-mul, mul-le-mul_right}
use borrow.Author.Tests.{eqb-true, eqb-false}
use lib.Dec.{eqb}
use lib.ListN.{length, get_or, set, length-map}
use lib.Seq.{sets}
use Rattle.table.specs.Limits.{place_size}
use Rattle.table.specs.Entry.{Entry}
use Rattle.table.specs.Table.{table_bytes}
use Rattle.ldc.specs.Store.{Card, free, live, Store, size, card, links, links_of, bytes_at, level, with_card, with_cursor, with_level}
use Rattle.ldc.specs.Lent.{lent_of}
use Rattle.ldc.specs.Place.{next_place, place_taken, written, free_places}
use Rattle.ldc.proofs.Basics.Cases.{cases}
use Rattle.ldc.proofs.Basics.ListLaws.{Each, get_or-mem, get_d_map, length-flat, parts, get_or-parts, parts-flat, spell}
use Rattle.ldc.proofs.Lent.Parts.{cards-rows, get_d_rows, length-rows, length-row_of, padded}
use Rattle.ldc.proofs.Lent.Changes.{cards-with_place, area-with_place, lists-with_place, lists-with_level, head-with_level, each-padded}
use Rattle.ldc.proofs.Lent.Round.{level-fits}
use Rattle.ldc.proofs.Stores.Facts.{cursor-sound}
use Rattle.ldc.proofs.Stores.Places.{taken-below}
use Rattle.ldc.proofs.Stores.Sound.{Sound, Whole}
use Rattle.ldc.proofs.Stores.SoundRules.{threshold-eight}
use Rattle.ldc.proofs.Stores.Written.{size-written, placed-written, card-written-other, card-written-same}
use Rattle.ldc.proofs.Stores.Written.{bytes-written-other, bytes-written-same, cursor-written}
use Rattle.ldc.specs.Layout.{card_of, table_summary, row_of, items_in, part_in, link_limit, length_in, length_word, level_count}
use Rattle.book.specs.Place.{free_at, free_rows}
use Rattle.std.specs.Prelude.{Some}
use Rattle.book.proofs.Free.{taken-shown, count-shown}
use Rattle.book.proofs.Heads.{words-cursor, words-length}
use Rattle.book.proofs.Levels.{take-padded}
use Rattle.book.specs.Rows.{Wide}
use Rattle.book_edit.specs.Level.{Listing, with_items}
use Rattle.book_edit.specs.Shown.{Fits, Shows}
use Rattle.book_edit.specs.Take.{Takes}

-- A sound store of whole places fits.
pub fits-sound : (s : Store) → Sound s → Whole s → Fits s
fits-sound s so w = record {
  placed = so.placed;
  whole = w;
  most = so.most;
  four = so.four;
  two = so.two;
  listed = level-fits s so;
  few = λ p. omega (arith, so.few p, threshold-eight s so.rule_a-kept);
  turns = cursor-sound s so.rule_a-kept;
}

-- What is so of the links at every place is so of every card's.
pub few-cards : (s : Store) → ((p : ℕ) → length (links s p) ≤ link_limit) → (c : Card) → Memᴰ c s.cards → length (links_of c) ≤ link_limit
unfolding links card
few-cards s few c m = let spot = get_or-mem s.cards free m in rw spot.2 at (few spot.0)

module _ (s : Store) (f : Fits s) where
  -- ---- cards

  pub cards-shown : s.cards ≡ map card_of (lent_of s).cards
  unfolding lent_of
  cards-shown = sym (cards-rows s.cards s.places (few-cards s f.few))

  pub row-shown : (p : ℕ) → p < size s → get_or (lent_of s).cards p [] ≡ row_of (card s p) (bytes_at s p)
  unfolding lent_of size card bytes_at
  row-shown p h = get_d_rows s.cards s.places p h

  pub length-cards : length (lent_of s).cards ≡ size s
  unfolding lent_of size
  length-cards = length-rows s.cards s.places

  -- Rows of as many words as their type has.
  pub wide-shown : Wide (lent_of s).cards
  unfolding links
  wide-shown p h = rw (row-shown p (omega (arith, length-cards))) (length-row_of (card s p) (bytes_at s p) (f.few p))

  pub free-shown : free_rows (lent_of s).cards ≡ free_places s
  free-shown = count-shown s (lent_of s).cards cards-shown

  -- ---- places

  pub each-place : Each place_size s.places
  unfolding bytes_at
  each-place i h = f.whole i (omega (arith, f.placed))

  pub length-area : length (lent_of s).area ≡ size s * place_size
  unfolding lent_of
  length-area = length-flat place_size s.places each-place ∙ rw f.placed

  -- ---- level lists

  laid : List (List ℕ)
  laid = map (padded (length s.places)) s.levels

  length-laid : length laid ≡ level_count
  unfolding laid
  length-laid = length-map s.levels (padded (length s.places)) ∙ f.four

  each_laid : Each (size s) laid
  unfolding laid level
  each_laid = rw f.placed (each-padded s (size s) s.levels (λ i h. f.listed i))

  pub length-lists : length (lent_of s).lists ≡ level_count * size s
  unfolding lent_of laid
  length-lists = length-flat (size s) laid each_laid ∙ rw length-laid

  pub part-shown : (n : ℕ) → n < level_count → part_in (size s) (lent_of s).lists n ≡ padded (size s) (level s n)
  unfolding laid level
  part-shown n h =
      let back : parts (size s) level_count (lent_of s).lists ≡ laid = unfold lent_of in (rw length-laid at (parts-flat (size s) laid each_laid)) in
      sym (get_or-parts (size s) level_count (lent_of s).lists n h)
      ∙ ap (λ (xss : List (List ℕ)). get_or xss n []) back
      ∙ get_d_map (padded (length s.places)) s.levels n [] [] (omega (arith, f.four))
      ∙ rw f.placed

  pub length-shown : (n : ℕ) → n < level_count → length_in (lent_of s).head n ≡ length (level s n)
  length-shown n h = words-length s f.two n (omega (arith, f.four))

  pub items_shown : (n : ℕ) → n < level_count → items_in (size s) (lent_of s).lists (lent_of s).head n ≡ level s n
  items_shown n h = rw (length-shown n h, part-shown n h) (take-padded (size s) (level s n))

  pub listing : (n : ℕ) → n < level_count → Listing n (size s) (lent_of s).lists (lent_of s).head
  listing n h = record {
    level = h;
    few = f.most;
    within = omega (arith, length-lists, mul-le-mul_right (size s) h, suc-mul n (size s));
    fits = rw (length-shown n h) (f.listed n);
    rest = part-shown n h ∙ rw (items_shown n h, length-shown n h);
  }

  -- Other items of a level are lent of the store with that list.
  pub lists-changed : (n : ℕ) (ps : List ℕ) → n < level_count → length ps ≤ size s
      → with_items n (size s) ps (lent_of s).lists ≡ (lent_of (with_level n ps s)).lists
  unfolding with_items level
  lists-changed n ps h few =
      sym (rw f.placed at (lists-with_level s n ps (λ i k. rw f.placed (f.listed i)) (omega (arith, f.four)) (rw f.placed few)))

  pub head-changed : (n : ℕ) (ps : List ℕ) → set (lent_of s).head (length_word n) (length ps) ≡ (lent_of (with_level n ps s)).head
  head-changed n ps = sym (head-with_level s _ _ (spell 2 none s.marks f.two) n ps)

-- The same of pieces that are equal to the store's.
module _ (s : Store) (f : Fits s) (n : ℕ) (h : n < level_count) (many : ℕ) (lists head : List ℕ)
    (em : many ≡ size s) (el : lists ≡ (lent_of s).lists) (eh : head ≡ (lent_of s).head) where
  pub listing-at : Listing n many lists head
  listing-at = rw (em, el, eh) (listing s f n h)

  pub items_at : items_in many lists head n ≡ level s n
  items_at = rw (em, el, eh) (items_shown s f n h)

  pub length-at : length_in head n ≡ length (level s n)
  length-at = rw eh (length-shown s f n h)

  pub lists_at : (ps : List ℕ) → length ps ≤ size s → with_items n many ps lists ≡ (lent_of (with_level n ps s)).lists
  lists_at ps few = rw (em, el) (lists-changed s f n ps h few)

  pub head_at : (ps : List ℕ) → set head (length_word n) (length ps) ≡ (lent_of (with_level n ps s)).head
  head_at ps = rw eh (head-changed s f n ps)

-- ---- a table written

module _ (s : Store) (f : Fits s) (es : List Entry) (enough : 1 ≤ free_places s) (long : length (table_bytes es) ≡ place_size) where
  whole-written : (p : ℕ) → p < size (written es s) → length (bytes_at (written es s) p) ≡ place_size
  whole-written p h =
      cases (eqb p (place_taken s))
      (λ q. rw (eqb-true p (place_taken s) q, bytes-written-same es s f.turns enough f.placed) long)
      (λ q. rw (bytes-written-other es s p (eqb-false p (place_taken s) q)) (f.whole p (rw (size-written es s) at h)))

  few-written : (p : ℕ) → length (links (written es s) p) ≤ link_limit
  unfolding links
  few-written p =
      cases (eqb p (place_taken s))
      (λ q. rw (eqb-true p (place_taken s) q, card-written-same es s f.turns enough) (omega arith))
      (λ q. rw (card-written-other es s p (eqb-false p (place_taken s) q)) (f.few p))

  pub fits-written : Fits (written es s)
  fits-written = record {
    placed = placed-written es s f.placed;
    whole = whole-written;
    most = rw (size-written es s) f.most;
    four = unfold written in f.four;
    two = unfold written in f.two;
    listed = λ n. rw (size-written es s) (unfold written level in f.listed n);
    few = few-written;
    turns = cursor-written es s f.turns enough;
  }

  pub lists-written : (lent_of (written es s)).lists ≡ (lent_of s).lists
  unfolding written lent_of
  lists-written =
      lists-with_place (with_card (place_taken s) (live []) (with_cursor (next_place (size s) (place_taken s)) s)) (place_taken s) (table_bytes es)

  area-written : (lent_of (written es s)).area ≡ sets (lent_of s).area (place_taken s * place_size) (table_bytes es)
  unfolding written lent_of
  area-written =
      area-with_place (with_card (place_taken s) (live []) (with_cursor (next_place (size s) (place_taken s)) s)) (place_taken s) (table_bytes es)
      (each-place s f) (omega (arith, taken-below s f.turns enough, f.placed)) long

  cards-written : (lent_of (written es s)).cards ≡ set (lent_of s).cards (place_taken s) (row_of (live []) (table_bytes es))
  unfolding written lent_of
  cards-written =
      cards-with_place (with_cursor (next_place (size s) (place_taken s)) s) (place_taken s) (live []) (table_bytes es)
      (omega (arith, taken-below s f.turns enough, f.placed))

  head-written : (lent_of (written es s)).head ≡ set (lent_of s).head 1 (next_place (size s) (place_taken s))
  unfolding written lent_of
  head-written = refl

  -- The place that the code takes and writes.
  pub shows-written : (area area' : List ℕ) (cards cards' : List (List ℕ)) (head head' : List ℕ) (p : ℕ)
      → Shows area cards head s → Takes cards head cards' head' p (table_summary (table_bytes es))
      → area' ≡ sets area (p * place_size) (table_bytes es)
      → (p ≡ place_taken s) × Shows area' cards' head' (written es s)
  shows-written area area' cards cards' head head' p sh t w =
      let rows : List (List ℕ) = (lent_of s).cards in
      let at : free_at (length rows) rows s.cursor ≡ Some p =
      rw (sh.cards, sh.head, words-cursor s) at t.first in
      let here : place_taken s ≡ p = taken-shown s rows (cards-shown s f) p at in (
        sym here,
        record {
          area = w ∙ rw (← here, sh.area) (sym area-written);
          cards = t.row ∙ rw (← here, sh.cards) (unfold row_of in sym cards-written);
          head = t.next ∙ rw (← here, sh.cards, sh.head, length-cards s f) (sym head-written);
        },
      )
