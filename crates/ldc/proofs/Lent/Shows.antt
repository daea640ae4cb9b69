-- Lent memory of good sizes in which no rule is broken shows a sound store, and is the memory that this store is written to.
-- The facts of `Sound` come from the rules by `SoundRules`; the way back goes piece by piece, parts not in use being zero.
use Prim.Native.Nat.{ℕ, ◌*◌, ◌%◌, ◌≤◌, ◌<◌}
use mathlib.Core.Path.{◌≡◌, refl, sym, ◌∙◌}
use mathlib.Core.Bool.{true}
use mathlib.Core.List.{List, [], map, Memᴰ}
use native.Mathlib.Omega.{arith}
use borrow.Author.Tests.{eqb-true, leb-true, ltb-true, ltb-false}
use lib.Dec.{eqb, leb, ltb}
use lib.ListN.{length, get_or, drop, length-map}
use lib.Seq.{length-take-le}
use Rattle.coding.specs.Number.{Bytes}
use Rattle.table.specs.Limits.{place_size}
use Rattle.table.specs.Table.{is_memory, all_zero}
use Rattle.table.proofs.Tests.{and_parts, cases}
use Rattle.table.proofs.Encode.{encode, shows-valid}
use Rattle.ldc.specs.Lists.{all, all_from}
use Rattle.ldc.specs.Store.{free, size, card, links, bytes_at}
use Rattle.ldc.specs.Lent.{Lent, places_in, sizes_good, list_length, list_part, level_of, store_of, lent_of, row_good, numbers_good, summary_good, summaries_good, counts_good, unused_zero, broken, chop}
use Rattle.ldc.proofs.Stores.Sound.{Sound, Whole}
use Rattle.ldc.proofs.Basics.ListLaws.{all-at, below_at, mem-get_or, get_d_map, spell, parts, length-parts, get_or-parts, each_part, flat-parts}
use Rattle.ldc.proofs.Lent.Parts.{length-links_at, links-of, row_back, rows-cards, words-of-mark, padded, part-back}
use Rattle.ldc.proofs.Stores.SoundRules.{beyond, threshold-eight, sound-of}
use Rattle.ldc.proofs.Lent.Round.{chop-parts}
use Rattle.ldc.proofs.Lent.Rules.{Unbroken, unbroken}
use Rattle.ldc.proofs.Lent.Shape.{bytes-parts}
use Rattle.ldc.specs.Layout.{link_count, card_of, mark_good, marks_good, row_rest, most_places, link_limit}
use Rattle.ldc.specs.Facts.{Shape}

-- ---- sizes

-- What good sizes are.
pub record Sizes (m : Lent) : Type 0 where
  pub area : length m.area ≡ places_in m.area * place_size
  pub fewest : 16 ≤ places_in m.area
  pub most : places_in m.area ≤ most_places
  pub cards : length m.cards ≡ places_in m.area
  pub lists : length m.lists ≡ 4 * places_in m.area

pub sizes : (m : Lent) → sizes_good m ≡ true → Sizes m
unfolding sizes_good places_in
sizes m h =
    let a = and_parts (eqb (length m.area % place_size) 0) _ h in
    let b = and_parts (leb 16 (places_in m.area)) _ a.1 in
    let c = and_parts (leb (places_in m.area) most_places) _ b.1 in
    let d = and_parts (eqb (length m.cards) (places_in m.area)) _ c.1 in
    record {
      area = omega (arith, eqb-true (length m.area % place_size) 0 a.0);
      fewest = leb-true _ _ b.0;
      most = leb-true _ _ c.0;
      cards = eqb-true _ _ d.0;
      lists = eqb-true _ _ d.1;
    }

-- ---- rows

-- The parts not in use.
record Unused (m : Lent) : Type 0 where
  first : mark_good (get_or m.head 2 0) (get_or m.head 3 0) ≡ true
  second : mark_good (get_or m.head 4 0) (get_or m.head 5 0) ≡ true
  rows : all (λ row. all_zero (row_rest row)) m.cards ≡ true
  lists : all_from 4 0 (λ n. all_zero (drop (list_length m n) (list_part m n))) ≡ true

module _ (m : Lent) (u : Unbroken m) where
  unused : Unused m
  unfolding unused_zero
  unused =
      let a = and_parts (marks_good m.head) _ u.unused in
      let b = and_parts (mark_good (get_or m.head 2 0) (get_or m.head 3 0)) _ a.0 in
      let c = and_parts (all (λ row. all_zero (row_rest row)) m.cards) _ a.1 in
      record { first = b.0; second = b.1; rows = c.0; lists = c.1 }

  row-good : (row : List ℕ) → Memᴰ row m.cards → row_good row ≡ true
  unfolding numbers_good
  row-good row r = all-at row_good m.cards (and_parts (all row_good m.cards) _ u.numbers).0 r

  row_count : (row : List ℕ) → Memᴰ row m.cards → link_count row ≤ get_or m.head 0 0
  unfolding counts_good
  row_count row r = leb-true _ _ (all-at (λ row. leb (link_count row) (get_or m.head 0 0)) m.cards u.counts r)

  -- No card has more links than the threshold says.
  few-store_of : (p : ℕ) → length (links (store_of m) p) ≤ (store_of m).threshold
  unfolding links card store_of size
  few-store_of p =
      let row : List ℕ = get_or m.cards p [] in
      cases (ltb p (length m.cards))
      (λ q. let near : p < length m.cards = ltb-true _ _ q in
      let r : Memᴰ row m.cards = mem-get_or m.cards p [] near in
      let few : link_count row ≤ get_or m.head 0 0 = row_count row r in
      let eight : link_count row ≤ link_limit = omega (arith, threshold-eight (store_of m) u.store.a) in
      rw (get_d_map card_of m.cards p [] free near, links-of row (row-good row r) eight, length-links_at) few)
      (λ q. let far : size (store_of m) ≤ p = omega (arith, ltb-false p (length m.cards) q, length-map m.cards card_of) in
      rw (beyond (store_of m) p far) (omega arith))

-- ---- the store

places-store_of : (m : Lent) → (store_of m).places ≡ parts place_size (places_in m.area) m.area
unfolding store_of
places-store_of m = chop-parts (places_in m.area) m.area

pub bytes-store_of : (m : Lent) → Bytes m.area → (p : ℕ) → Bytes (bytes_at (store_of m) p)
unfolding bytes_at
bytes-store_of m b p = rw (places-store_of m) (bytes-parts place_size (places_in m.area) m.area b p)

-- As many places as the area has parts, all whole.
module _ (m : Lent) (z : sizes_good m ≡ true) where
  pub size-store_of : size (store_of m) ≡ places_in m.area
  unfolding size store_of
  size-store_of = length-map m.cards card_of ∙ (sizes m z).cards

  pub whole-store_of : Whole (store_of m)
  unfolding bytes_at
  whole-store_of p h =
      let near : p < length (parts place_size (places_in m.area) m.area) =
      omega (arith, size-store_of, length-parts place_size (places_in m.area) m.area) in
      rw (places-store_of m) (each_part place_size (places_in m.area) m.area (sizes m z).area p near)

module _ (m : Lent) (sh : Shape m) (z : sizes_good m ≡ true) (k : broken m ≡ []) where
  length-places : length (store_of m).places ≡ places_in m.area
  length-places = rw (places-store_of m) (length-parts place_size (places_in m.area) m.area)

  pub sound-store_of : Sound (store_of m)
  sound-store_of =
      let u = unbroken m k in
      let g = sizes m z in
      sound-of (store_of m)
      record {
        fewest = omega (arith, size-store_of m z);
        most = omega (arith, size-store_of m z);
        placed = length-places ∙ sym (size-store_of m z);
        four = unfold store_of in refl;
        two = unfold store_of in refl;
      }
      u.store
      (unfold store_of is_memory in shows-valid m.memory sh.memory-bytes sh.memory 0 u.memory)
      (few-store_of m u) (whole-store_of m z) (bytes-store_of m sh.area-bytes)

  -- ---- back to the memory

  area-back : (lent_of (store_of m)).area ≡ m.area
  unfolding lent_of
  area-back = rw (places-store_of m) (flat-parts place_size (places_in m.area) m.area (sizes m z).area)

  cards-back : (lent_of (store_of m)).cards ≡ m.cards
  unfolding lent_of store_of
  cards-back =
      let u = unbroken m k in
      rows-cards m.cards (chop (places_in m.area) m.area)
      (λ p h. let row : List ℕ = get_or m.cards p [] in
      let r : Memᴰ row m.cards = mem-get_or m.cards p [] h in
      let few : link_count row ≤ link_limit = omega (arith, row_count m u row r, threshold-eight (store_of m) u.store.a) in
      row_back row (row-good m u row r) (get_or (chop (places_in m.area) m.area) p []) (sh.rows p h) few
      (all-at (λ x. all_zero (row_rest x)) m.cards (unused m u).rows r)
      (unfold bytes_at store_of summaries_good in
      (below_at (length m.cards) (λ q. summary_good (get_or m.cards q []) (bytes_at (store_of m) q)) u.summaries p h)))

  laid : List (List ℕ)
  laid = parts (places_in m.area) 4 m.lists

  part-laid : (n : ℕ) → n < 4 → list_part m n ≡ get_or laid n []
  unfolding laid
  part-laid n h = sym (get_or-parts (places_in m.area) 4 m.lists n h)

  length-laid : (n : ℕ) → n < 4 → length (get_or laid n []) ≡ places_in m.area
  unfolding laid
  length-laid n h =
      each_part (places_in m.area) 4 m.lists (sizes m z).lists n (omega (arith, length-parts (places_in m.area) 4 m.lists))

  fits : (n : ℕ) → n < 4 → list_length m n ≤ places_in m.area
  unfolding numbers_good
  fits n h = leb-true _ _ (below_at 4 (λ i. leb (list_length m i) (places_in m.area))
      (and_parts (all row_good m.cards) _ (unbroken m k).numbers).1 n h)

  length-level_of : (n : ℕ) → n < 4 → length (level_of m n) ≡ list_length m n
  unfolding level_of
  length-level_of n h =
      rw (part-laid n h) (length-take-le (list_length m n) (get_or laid n []) (omega (arith, fits n h, length-laid n h)))

  level-back : (n : ℕ) → n < 4 → padded (places_in m.area) (level_of m n) ≡ get_or laid n []
  unfolding level_of
  level-back n h =
      let rest : all_zero (drop (list_length m n) (list_part m n)) ≡ true =
      below_at 4 (λ i. all_zero (drop (list_length m i) (list_part m i))) (unused m (unbroken m k)).lists n h in
      rw (part-laid n h)
      (part-back (places_in m.area) (list_length m n) (get_or laid n []) (length-laid n h) (fits n h) (rw (part-laid n h) at rest))

  lists_back : (lent_of (store_of m)).lists ≡ m.lists
  unfolding lent_of
  lists_back =
      let four : map (padded (places_in m.area)) (store_of m).levels ≡ laid =
      unfold store_of laid in
      (rw (level-back 0 (omega arith), level-back 1 (omega arith), level-back 2 (omega arith), level-back 3 (omega arith))) in
      rw (length-places, four) (unfold laid in flat-parts (places_in m.area) 4 m.lists (sizes m z).lists)

  head-back : (lent_of (store_of m)).head ≡ m.head
  unfolding lent_of store_of
  head-back =
      let g = unused m (unbroken m k) in
      rw (
        words-of-mark _ _ g.first,
        words-of-mark _ _ g.second,
        length-level_of 0 (omega arith),
        length-level_of 1 (omega arith),
        length-level_of 2 (omega arith),
        length-level_of 3 (omega arith),
      )
      (sym (spell 10 0 m.head sh.head))

  memory-back : (lent_of (store_of m)).memory ≡ m.memory
  unfolding lent_of store_of is_memory
  memory-back = encode m.memory sh.memory-bytes sh.memory 0 (unbroken m k).memory

  pub lent_of-store_of : lent_of (store_of m) ≡ m
  lent_of-store_of i = record { area = area-back i; cards = cards-back i; lists = lists_back i; head = head-back i; memory = memory-back i }
