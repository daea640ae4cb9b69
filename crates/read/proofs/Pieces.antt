-- The pieces of lent memory that is kept, and of the store that it shows: lists, rows and places.
use Prim.Native.Nat.{ℕ, zero, suc, ◌*◌, ◌≤◌, ◌<◌}
use mathlib.Core.Path.{◌≡◌, refl, ◌∙◌}
use mathlib.Core.Bool.{true, false}
use mathlib.Core.List.{[], map}
use native.Mathlib.Omega.{arith}
use borrow.Author.Tests.{leb-true, ltb-true, ltb-false}
use lib.Dec.{leb, ltb}
use lib.ListN.{length, get_or, drop, length-map, get_or-eq_default, drop_of_length-le}
use Rattle.table.specs.Limits.{place_size}
use Rattle.table.specs.Table.{place_of}
use Rattle.table.proofs.Tests.{and_parts, cases}
use Rattle.summary.proofs.Same.{same_true}
use Rattle.ldc.specs.Lists.{all}
use Rattle.ldc.specs.Store.{free, card, links, links_of, is_free, bytes_at, level}
use Rattle.ldc.specs.Lent.{Lent, places_in, list_length, level_of, store_of, row_good, numbers_good, summary_good, summaries_good, counts_good}
use Rattle.ldc.proofs.Basics.ListLaws.{all-at, below_at, mem-get_or, get_d_map, parts, length-parts, get_or-parts}
use Rattle.ldc.proofs.Lent.Round.{chop-parts}
use Rattle.ldc.proofs.Lent.Rules.{Unbroken, unbroken}
use Rattle.ldc.proofs.Lent.Shows.{sizes}
use Rattle.ldc.proofs.Stores.SoundRules.{threshold-eight}
use Rattle.ldc.specs.Layout.{link_limit, state_of, link_count, card_of, summary_in, table_summary, items_in, level_count, threshold_in}
use Rattle.read.proofs.Walks.{items-long}
use Rattle.read.specs.Shown.{Kept}

-- ---- places

-- The bytes of a place are its part of the area.
pub bytes-shown : (m : Lent) → length m.area ≡ places_in m.area * place_size → (p : ℕ) → bytes_at (store_of m) p ≡ place_of m.area p
unfolding bytes_at store_of
bytes-shown m h p =
    rw (chop-parts (places_in m.area) m.area)
    (cases (ltb p (places_in m.area))
    (λ q. get_or-parts place_size (places_in m.area) m.area p (ltb-true _ _ q))
    (λ q. let far : places_in m.area ≤ p = ltb-false _ _ q in
    let none : drop (p * place_size) m.area ≡ [] = drop_of_length-le m.area {i = p * place_size} (omega arith) in
    get_or-eq_default (parts place_size (places_in m.area) m.area) [] (omega (arith, length-parts place_size (places_in m.area) m.area))
    ∙ rw none))

-- ---- rows

-- The links of a place are those of its row.
pub links-shown : (m : Lent) (p : ℕ) → links (store_of m) p ≡ links_of (card_of (get_or m.cards p []))
unfolding links card store_of card_of state_of link_count
links-shown m p =
    cases (ltb p (length m.cards))
    (λ q. rw (get_d_map card_of m.cards p [] free (ltb-true _ _ q)))
    (λ q. let far : length m.cards ≤ p = ltb-false _ _ q in
    rw (get_or-eq_default (map card_of m.cards) free {n = p} (omega (arith, length-map m.cards card_of)), get_or-eq_default m.cards [] {n = p} far))

pub card-shown : (m : Lent) (p : ℕ) → p < length m.cards → card (store_of m) p ≡ card_of (get_or m.cards p [])
unfolding card store_of
card-shown m p h = get_d_map card_of m.cards p [] free h

-- ---- lists and rows of kept memory

-- A level's list is the items in use of its part of the lists.
pub level-part : (m : Lent) (n : ℕ) → n < level_count → level (store_of m) n ≡ items_in (places_in m.area) m.lists m.head n
unfolding level store_of level_of
level-part m zero h = refl
level-part m (suc zero) h = refl
level-part m (suc (suc zero)) h = refl
level-part m (suc (suc (suc zero))) h = refl
level-part m (suc (suc (suc (suc n)))) h = absurd (omega arith)

module _ (m : Lent) (k : Kept m) where
  whole : Unbroken m
  whole = unbroken m k.unbroken

  pub length-fits : (n : ℕ) → n < level_count → list_length m n ≤ places_in m.area
  unfolding numbers_good
  length-fits n h = leb-true _ _ (below_at level_count (λ i. leb (list_length m i) (places_in m.area))
      (and_parts (all row_good m.cards) _ whole.numbers).1 n h)

  pub row-good : (p : ℕ) → p < length m.cards → row_good (get_or m.cards p []) ≡ true
  unfolding numbers_good
  row-good p h = all-at row_good m.cards (and_parts (all row_good m.cards) _ whole.numbers).0 (mem-get_or m.cards p [] h)

  pub row-threshold : (p : ℕ) → p < length m.cards → link_count (get_or m.cards p []) ≤ threshold_in m.head
  unfolding counts_good
  row-threshold p h = leb-true _ _ (all-at (λ row. leb (link_count row) (threshold_in m.head)) m.cards whole.counts (mem-get_or m.cards p [] h))

  pub row-eight : (p : ℕ) → p < length m.cards → link_count (get_or m.cards p []) ≤ link_limit
  unfolding store_of
  row-eight p h = omega (arith, row-threshold p h, threshold-eight (store_of m) whole.store.a)

  -- The summary of a card that is not free is its table's.
  pub row-summary : (p : ℕ) → p < length m.cards → is_free (card_of (get_or m.cards p [])) ≡ false
      → summary_in (get_or m.cards p []) ≡ table_summary (place_of m.area p)
  unfolding summaries_good summary_good
  row-summary p h used =
      let right = below_at (length m.cards) (λ q. summary_good (get_or m.cards q []) (bytes_at (store_of m) q)) whole.summaries p h in
      same_true _ _ (rw (used, bytes-shown m (sizes m k.sizes).area p) at right)

  pub level-items : (n : ℕ) → n < level_count → level (store_of m) n ≡ items_in (length m.cards) m.lists m.head n
  level-items n h = level-part m n h ∙ rw (sizes m k.sizes).cards

  pub level-length : (n : ℕ) → n < level_count → length (level (store_of m) n) ≡ list_length m n
  level-length n h =
      let z = sizes m k.sizes in
      rw (level-items n h) (items-long (length m.cards) m.lists m.head n h (rw z.cards z.lists) (rw z.cards (length-fits n h)))
