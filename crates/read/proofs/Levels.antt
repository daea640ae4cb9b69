-- Kept memory shows a sound store, its levels can be read, and the read order is what the code reads, level by level.
use Prim.Native.Nat.{ℕ, suc, ◌≤◌, ◌<◌}
use mathlib.Core.Path.{◌≡◌, refl, sym, ◌∙◌, ap}
use mathlib.Core.Bool.{false, true≢false}
use mathlib.Core.List.{List, [], ◌∷◌, ◌++◌, map, reverse, Memᴰ}
use native.Mathlib.Omega.{arith}
use borrow.Author.Tests.{ltb-true, ltb-false}
use lib.Dec.{ltb}
use lib.ListN.{length, get_or}
use Rattle.coding.specs.Number.{Bytes}
use Rattle.table.specs.Limits.{place_size}
use Rattle.table.specs.Table.{entries, is_memory, place_of}
use Rattle.table.proofs.Tests.{cases}
use Rattle.table.proofs.Encode.{shows-valid}
use Rattle.ldc.specs.Lists.{flat}
use Rattle.ldc.specs.Store.{Link, Store, size, card, links, is_free, bytes_at, table, level, sources}
use Rattle.ldc.specs.Lent.{Lent, places_in, store_of}
use Rattle.ldc.specs.Read.{read_order}
use Rattle.ldc.proofs.Stores.CardFacts.{live-not-free, frozen-not-free}
use Rattle.ldc.proofs.Stores.Facts.{listed-live, link-frozen}
use Rattle.ldc.proofs.Stores.Frame.{spans_rise-same, sources-same}
use Rattle.ldc.proofs.Lent.Parts.{links-of, length-links_at}
use Rattle.ldc.proofs.Lent.Rules.{unbroken}
use Rattle.ldc.proofs.Lent.Shows.{sizes, size-store_of, whole-store_of, bytes-store_of}
use Rattle.ldc.proofs.Basics.ListLaws.{mem-get_or, length-parts}
use Rattle.ldc.proofs.Lent.Round.{chop-parts}
use Rattle.ldc.proofs.Stores.Sound.{Sound}
use Rattle.ldc.proofs.Stores.SoundRules.{beyond, below-size, sound-of}
use Rattle.ldc.specs.Layout.{link_at, items_in, level_count}
use Rattle.book.proofs.Rows.{link-of, count-of, no_link}
use Rattle.book.specs.Rows.{shown_by}
use Rattle.read.specs.Shown.{Tabled, Legible, Summed, LinksSummed, ListSummed, Rising, Kept}
use Rattle.read.specs.Look.{Levels}
use Rattle.read.proofs.Pieces.{bytes-shown, links-shown, card-shown, length-fits, row-good, row-threshold, row-eight, row-summary, level-items}

-- Beyond the last card there are no links.
far-links : (s : Store) (p : ℕ) → size s ≤ p → links s p ≡ []
unfolding links
far-links s p h = rw (beyond s p h)

-- Area and cards decide on bytes, links and all that is read of a table.
module _ (m : Lent) (p : ℕ) where
  same_bytes : bytes_at (shown_by m.area m.cards) p ≡ bytes_at (store_of m) p
  unfolding bytes_at store_of
  same_bytes = refl

  same-links : links (shown_by m.area m.cards) p ≡ links (store_of m) p
  unfolding links card store_of
  same-links = refl

  same-sources : sources (shown_by m.area m.cards) p ≡ sources (store_of m) p
  same-sources =
      sources-same (store_of m) (shown_by m.area m.cards) p same-links same_bytes
      (λ l x. unfold bytes_at store_of in refl)

module _ (m : Lent) (k : Kept m) where
  -- No card has more links than the threshold says.
  few : (p : ℕ) → length (links (store_of m) p) ≤ (store_of m).threshold
  unfolding store_of
  few p =
      cases (ltb p (length m.cards))
      (λ q. let near : p < length m.cards = ltb-true _ _ q in
      rw (links-shown m p, links-of (get_or m.cards p []) (row-good m k p near) (row-eight m k p near), length-links_at) (row-threshold m k p near))
      (λ q. let far : size (store_of m) ≤ p = omega (arith, ltb-false p (length m.cards) q, size-store_of m k.sizes, (sizes m k.sizes).cards) in
      rw (far-links (store_of m) p far) (omega arith))

  module _ (long : length m.memory ≡ place_size) (held : Bytes m.memory) (bytes : Bytes m.area) where
    pub sound-kept : Sound (store_of m)
    sound-kept =
        let u = unbroken m k.unbroken in
        let z = sizes m k.sizes in
        sound-of (store_of m)
        record {
          fewest = omega (arith, size-store_of m k.sizes);
          most = omega (arith, size-store_of m k.sizes);
          placed = unfold store_of in (ap length (chop-parts (places_in m.area) m.area) ∙ length-parts place_size (places_in m.area) m.area ∙ sym (size-store_of m k.sizes));
          four = unfold store_of in refl;
          two = unfold store_of in refl;
        }
        u.store
        (unfold store_of is_memory in shows-valid m.memory held long 0 u.memory)
        few (whole-store_of m k.sizes) (bytes-store_of m bytes)

    -- What is not free holds a table.
    tabled : (p : ℕ) → is_free (card (store_of m) p) ≡ false → Tabled m.area p
    tabled p h =
        let near : p < size (store_of m) = below-size (store_of m) p (λ e. true≢false (rw e at h)) in
        let z = sizes m k.sizes in
        record {
          within = omega (arith, size-store_of m k.sizes, z.area);
          good = rw (← (bytes-shown m z.area p)) (sound-kept.tables p h).good;
        }

    -- What is not free holds a table, with its summary on the card.
    summed : (p : ℕ) → is_free (card (store_of m) p) ≡ false → Summed m.area m.cards p
    summed p h =
        let near : p < length m.cards = omega (arith, below-size (store_of m) p (λ e. true≢false (rw e at h)), size-store_of m k.sizes, (sizes m k.sizes).cards) in
        record { tabled = tabled p h; summary = row-summary m k p near (rw (card-shown m p near) at h) }

    -- Such are the items of a level's list,
    listed : (n : ℕ) → n < level_count → ListSummed m.area m.cards (items_in (length m.cards) m.lists m.head n)
    listed n h i hi =
        let ps = items_in (length m.cards) m.lists m.head n in
        let p : ℕ = get_or ps i 0 in
        let member : Memᴰ p (level (store_of m) n) = rw (level-items m k n h) (mem-get_or ps i 0 hi) in
        summed p (live-not-free (card (store_of m) p) (listed-live (store_of m) sound-kept n p member))

    -- and the places that links name.
    linked : LinksSummed m.area m.cards
    linked p i hp hi =
        let d : Link = no_link in
        let n = count-of (get_or m.cards p []) (row-good m k p hp) (row-eight m k p hp) in
        let here : get_or (links (store_of m) p) i d ≡ link_at (get_or m.cards p []) i =
        rw (links-shown m p) (link-of (get_or m.cards p []) i d (omega arith)) in
        let member : Memᴰ (get_or (links (store_of m) p) i d) (links (store_of m) p) =
        mem-get_or (links (store_of m) p) i d (rw (links-shown m p) (omega arith)) in
        let l : Link = get_or (links (store_of m) p) i d in
        rw (← here) (summed l.place (frozen-not-free (card (store_of m) l.place) (link-frozen (store_of m) sound-kept p l member)))

    legible : Legible m.area m.cards
    legible =
        let z = sizes m k.sizes in
        record {
          sized = rw z.cards z.area;
          few = omega arith;
          counted = row-eight m k;
          rowed = row-good m k;
          linked = λ p i hp hi. (linked p i hp hi).tabled;
        }

    rising : (n : ℕ) → n < 3 → Rising m.area m.cards (items_in (length m.cards) m.lists m.head (suc n))
    rising n h =
        record {
          listed = λ i hi. (listed (suc n) (omega arith) i hi).tabled;
          rises =
              spans_rise-same (store_of m) (shown_by m.area m.cards) (items_in (length m.cards) m.lists m.head (suc n))
              (λ p x. (same-links m p, same_bytes m p))
              ∙ rw (← (level-items m k (suc n) (omega arith))) (sound-kept.rising n);
        }

    pub levels-kept : Levels m.area m.cards m.lists m.head
    levels-kept =
        let z = sizes m k.sizes in
        record {
          legible = legible;
          sized = rw z.cards z.lists;
          lengths = λ n h. rw z.cards (length-fits m k n h);
          newest = λ i hi. (listed 0 (omega arith) i hi).tabled;
          summed = listed;
          linked = linked;
          rising = rising;
        }

    -- ---- the read order

    newest-same : (ps : List ℕ) → map (table (store_of m)) ps ≡ map (λ p. entries (place_of m.area p)) ps
    unfolding table
    newest-same ps =
        elim ps as (λ qs. map (table (store_of m)) qs ≡ map (λ p. entries (place_of m.area p)) qs) [ [] ↦ refl | p ∷ (qs → ih) ↦ rw (bytes-shown m (sizes m k.sizes).area p, ih) ]

    lower-same : (n : ℕ) → n < level_count
        → flat (map (sources (store_of m)) (level (store_of m) n)) ≡ flat (map (sources (shown_by m.area m.cards)) (items_in (length m.cards) m.lists m.head n))
    lower-same n h =
        let same : (ps : List ℕ) → flat (map (sources (store_of m)) ps) ≡ flat (map (sources (shown_by m.area m.cards)) ps) = λ ps.
        elim ps as (λ qs. flat (map (sources (store_of m)) qs) ≡ flat (map (sources (shown_by m.area m.cards)) qs)) [ [] ↦ refl | p ∷ (qs → ih) ↦ rw (sym (same-sources m p), ih) ] in
        rw (level-items m k n h) (same (items_in (length m.cards) m.lists m.head n))

    -- Source by source.
    pub order-sources : read_order (store_of m)
        ≡ entries m.memory
        ∷ map (λ p. entries (place_of m.area p)) (reverse (items_in (length m.cards) m.lists m.head 0))
        ++ (flat (map (sources (shown_by m.area m.cards)) (items_in (length m.cards) m.lists m.head 1))
        ++ (flat (map (sources (shown_by m.area m.cards)) (items_in (length m.cards) m.lists m.head 2))
        ++ flat (map (sources (shown_by m.area m.cards)) (items_in (length m.cards) m.lists m.head 3))))
    unfolding read_order
    order-sources =
        let held : (store_of m).memory ≡ entries m.memory = unfold store_of in refl in
        let items : ℕ → List ℕ = items_in (length m.cards) m.lists m.head in
        let upper : map (table (store_of m)) (reverse (level (store_of m) 0)) ≡ map (λ p. entries (place_of m.area p)) (reverse (items 0)) =
        newest-same (reverse (level (store_of m) 0))
        ∙ ap (λ (ps : List ℕ). map (λ p. entries (place_of m.area p)) (reverse ps)) (level-items m k 0 (omega arith)) in
        cc (lower-same 1 (omega arith), lower-same 2 (omega arith), lower-same 3 (omega arith))
