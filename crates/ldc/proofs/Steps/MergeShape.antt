-- What a merge leaves, place by place: the new tables in places that were free, the old table's place and every frozen place left without links
-- free, and all else as it was.
use Prim.Native.Nat.{ℕ, suc, ◌≤◌, ◌<◌, ◌^◌}
use mathlib.Core.Path.{◌≡◌, refl, sym, ◌∙◌, ap, ap₂}
use mathlib.Core.List.Memᴰ
use mathlib.Core.List.{List, [], ◌∷◌, map, reverse, Memᴰ}
use mathlib.Core.Bool.{true, false, cond, not, ◌&&◌}
use native.Mathlib.Omega.{arith}
use borrow.Author.Tests.{eqb-true, eqb-false, eq-eqb}
use lib.Dec.{eqb, leb}
use lib.ListN.{length, get_or, set}
use lib.Seq.{get_or-set_same, get_or-set_other}
use Rattle.table.specs.Entry.{Entry}
use Rattle.table.specs.Search.{least_key, greatest_key}
use Rattle.table.specs.Table.{table_bytes, entries}
use Rattle.table.specs.Valid.{Keys, Valid}
use Rattle.ldc.specs.Lists.{any}
use Rattle.ldc.specs.Store.{Link, free, Store, size, card, links, is_free, is_live, is_frozen, bytes_at, table, level, slice, sources, within, span_start, span_end, with_card, with_level}
use Rattle.ldc.specs.Rules.{named}
use Rattle.ldc.specs.Place.{written_all, places_taken, free_places}
use Rattle.ldc.specs.Read.{gather}
use Rattle.ldc.specs.Tidy.{comes_out, merged_entries, merged_tables}
use Rattle.ldc.specs.Steps.{replaced, do_merge}
use Rattle.ldc.proofs.Basics.Cases.{cases, clash, both_left}
use Rattle.ldc.proofs.Stores.CardFacts.{live-not-free, live-not-frozen, frozen-not-free, frozen-not-live, no-links}
use Rattle.ldc.proofs.Stores.Changes.{card-same, card-other, below-size, size-with_card}
use Rattle.ldc.proofs.Basics.Counts.{any-member}
use Rattle.ldc.proofs.Entries.Cut.{Piece, cut-pieces}
use Rattle.ldc.proofs.Stores.Facts.{cursor-sound, listed-live, link-frozen, link-order, table-valid, table-readable}
use Rattle.ldc.proofs.Stores.Frame.{map-cong}
use Rattle.ldc.proofs.Stores.TableLaws.{entries-table_bytes}
use Rattle.ldc.proofs.Entries.Keys.{AllKeys, AllValues, keys-gather, keys-keep, keys-within, keys-lower, keys-higher, all-keys-append, all-values-append, values-gather, values-keep}
use Rattle.ldc.proofs.Stores.Naming.{named-same}
use Rattle.ldc.proofs.Stores.Release.{Bare, release-card, release-links, release-beside}
use Rattle.ldc.proofs.Basics.Replaced.{member-reverse}
use Rattle.ldc.proofs.Stores.Sound.{Sound}
use Rattle.ldc.proofs.Stores.Spans.{keys-tight, least_end-own, least_end-link, greatest_end-own, greatest_end-link, span-order}
use Rattle.ldc.proofs.Stores.Written.{Wrote, wrote, wrote-card, wrote-bytes, wrote-links, wrote-frozen, member-map}

-- ---- what comes out of a merge is valid

module _ (s : Store) (S : Sound s) (p : ℕ) (o : is_free (card s p) ≡ false) where
  -- the slices of some of its links
  slices-keys : (ls : List Link) → ((l : Link) → Memᴰ l ls → Memᴰ l (links s p)) → AllKeys (span_start s p) (suc (span_end s p)) (map (slice s) ls)
  unfolding slice span_start span_end
  slices-keys [] h = omega (arith, span-order s p (table-readable s S p o))
  slices-keys (l ∷ ls) h =
      let m = h l (Memᴰ.head refl) in
      let v = table-valid s S l.place (frozen-not-free (card s l.place) (link-frozen s S p l m)) in
      let k = keys-within 0 (2 ^ 64) l.low l.high (table s l.place) (omega (arith, link-order s S p l m)) v.keys in (
        keys-lower l.low (span_start s p) (suc (span_end s p)) (within l.low l.high (table s l.place)) (least_end-link (least_key (table s p)) (links s p) l m)
            (keys-higher l.low (suc l.high) (suc (span_end s p)) (within l.low l.high (table s l.place)) (omega (arith, greatest_end-link (greatest_key (table s p)) (links s p) l m)) k),
        slices-keys ls (λ x t. h x (Memᴰ.tail t)),
      )

  slices-all : (ls : List Link) → ((l : Link) → Memᴰ l ls → Memᴰ l (links s p)) → AllKeys 0 (2 ^ 64) (map (slice s) ls)
  unfolding slice within
  slices-all [] h = omega arith
  slices-all (l ∷ ls) h =
      let v = table-valid s S l.place (frozen-not-free (card s l.place) (link-frozen s S p l (h l (Memᴰ.head refl)))) in
      (keys-keep 0 (2 ^ 64) (λ e. leb l.low e.key && leb e.key l.high) (table s l.place) v.keys, slices-all ls (λ x t. h x (Memᴰ.tail t)))

  slices-values : (ls : List Link) → ((l : Link) → Memᴰ l ls → Memᴰ l (links s p)) → AllValues (map (slice s) ls)
  unfolding slice within
  slices-values [] h = tt
  slices-values (l ∷ ls) h =
      let v = table-valid s S l.place (frozen-not-free (card s l.place) (link-frozen s S p l (h l (Memᴰ.head refl)))) in
      (values-keep (λ e. leb l.low e.key && leb e.key l.high) (table s l.place) v.values, slices-values ls (λ x t. h x (Memᴰ.tail t)))

  pub sources-keys : AllKeys (span_start s p) (suc (span_end s p)) (sources s p)
  unfolding sources span_start span_end
  sources-keys =
      let r = table-readable s S p o in
      let t = keys-tight 0 (2 ^ 64) (table s p) r.some r.keys in
      all-keys-append (span_start s p) (suc (span_end s p)) (map (slice s) (reverse (links s p))) (table s p ∷ [])
      (slices-keys (reverse (links s p)) (λ l m. member-reverse l (links s p) m)) (
        keys-lower (least_key (table s p)) (span_start s p) (suc (span_end s p)) (table s p) (least_end-own (least_key (table s p)) (links s p))
            (keys-higher (least_key (table s p)) (suc (greatest_key (table s p))) (suc (span_end s p)) (table s p) (omega (arith, greatest_end-own (greatest_key (table s p)) (links s p))) t),
        omega (arith, span-order s p r),
      )

  pub sources-all : AllKeys 0 (2 ^ 64) (sources s p)
  unfolding sources
  sources-all =
      all-keys-append 0 (2 ^ 64) (map (slice s) (reverse (links s p))) (table s p ∷ [])
      (slices-all (reverse (links s p)) (λ l m. member-reverse l (links s p) m)) ((table-valid s S p o).keys, omega arith)

  pub sources-values : AllValues (sources s p)
  unfolding sources
  sources-values =
      all-values-append (map (slice s) (reverse (links s p))) (table s p ∷ [])
      (slices-values (reverse (links s p)) (λ l m. member-reverse l (links s p) m)) ((table-valid s S p o).values, tt)

  -- the test that a merge puts to each entry
  module _ (n : ℕ) where
    pub merged-keys : Keys (span_start s p) (suc (span_end s p)) (merged_entries s n p)
    unfolding merged_entries
    merged-keys = keys-keep (span_start s p) (suc (span_end s p)) (comes_out s n) (gather (sources s p)) (keys-gather (span_start s p) (suc (span_end s p)) (sources s p) sources-keys)

    pub merged-pieces : (t : List Entry) → Memᴰ t (merged_tables s n p) → Piece t
    unfolding merged_tables merged_entries
    merged-pieces =
        cut-pieces (merged_entries s n p)
        (keys-keep 0 (2 ^ 64) (comes_out s n) (gather (sources s p)) (keys-gather 0 (2 ^ 64) (sources s p) sources-all))
        (values-keep (comes_out s n) (gather (sources s p)) (values-gather (sources s p) sources-values))

module _ {A B C : Type 0} (f : B → C) (g : A → B) where
  map-map : (xs : List A) → map f (map g xs) ≡ map (λ x. f (g x)) xs
  map-map [] = refl
  map-map (x ∷ xs) = ap (λ (ys : List C). f (g x) ∷ ys) (map-map xs)

stored_back : (ts : List (List Entry)) → ((t : List Entry) → Memᴰ t ts → Valid t) → map entries (map table_bytes ts) ≡ ts
stored_back [] h = refl
stored_back (t ∷ ts) h =
    ap₂ (λ (x : List Entry) (xs : List (List Entry)). x ∷ xs) (entries-table_bytes t (h t (Memᴰ.head refl))) (stored_back ts (λ x m. h x (Memᴰ.tail m)))

-- ---- the store after

module _ (s : Store) (S : Sound s) (n p : ℕ) (m : Memᴰ p (level s n)) (enough : length (merged_tables s n p) ≤ free_places s) where
  abbrev pub after : Store
  after = do_merge n p s

  -- the new tables, their places, and the store with them written
  abbrev pub tables : List (List Entry)
  tables = merged_tables s n p

  abbrev pub new_places : List ℕ
  new_places = places_taken tables s

  abbrev filled : Store
  filled = written_all tables s

  pub p-live : is_live (card s p) ≡ true
  p-live = listed-live s S n p m

  pub p-occupied : is_free (card s p) ≡ false
  p-occupied = live-not-free (card s p) p-live

  pub filled-wrote : Wrote s filled new_places tables
  filled-wrote = wrote tables s (cursor-sound s S.rule_a-kept) enough S.placed

  -- before frozen places are released
  abbrev cleared : Store
  cleared = with_card p free (with_level n (replaced p new_places (level s n)) filled)

  -- the places that its links name
  abbrev pub linked : List ℕ
  linked = map (λ (l : Link). l.place) (links s p)

  p-below : p < size filled
  p-below = rw filled-wrote.same_size (below-size s p p-occupied)

  cleared-same : card cleared p ≡ free
  unfolding card
  cleared-same = card-same filled p free p-below

  cleared-other : (q : ℕ) → (q ≡ p → ⊥) → card cleared q ≡ card filled q
  unfolding card
  cleared-other q d = card-other filled p free q d

  -- a linked place is frozen, and so neither the old table's nor a new one's
  pub linked-frozen : (f : ℕ) → Memᴰ f linked → is_frozen (card s f) ≡ true
  linked-frozen f h =
      let w = member-map (λ (l : Link). l.place) f (links s p) h in
      rw w.1.1 (link-frozen s S p w.0 w.1.0)

  frozen-other : (f : ℕ) → is_frozen (card s f) ≡ true → f ≡ p → ⊥
  frozen-other f h e = clash (rw e at h) (live-not-frozen (card s p) p-live)

  frozen-kept : (f : ℕ) → is_frozen (card s f) ≡ true → card cleared f ≡ card s f
  frozen-kept f h = cleared-other f (frozen-other f h) ∙ wrote-card s filled new_places tables filled-wrote f (frozen-not-free (card s f) h)

  linked-bare : Bare cleared linked
  unfolding links
  linked-bare f h =
      let z = linked-frozen f h in
      let k = frozen-kept f z in
      (below-size cleared f (rw k (frozen-not-free (card s f) z)), rw k (no-links (card s f) (frozen-not-live (card s f) z)))

  -- ---- links and cards

  cleared-links : (q : ℕ) → (q ≡ p → ⊥) → links cleared q ≡ links filled q
  unfolding links
  cleared-links q d = rw (cleared-other q d)

  pub merge-links : (q : ℕ) → (q ≡ p → ⊥) → links after q ≡ links s q
  unfolding do_merge
  merge-links q d = release-links linked cleared linked-bare q ∙ cleared-links q d ∙ wrote-links s filled new_places tables filled-wrote q

  cleared-gone : links cleared p ≡ []
  unfolding links
  cleared-gone = rw cleared-same

  pub merge-gone : links after p ≡ []
  unfolding do_merge
  merge-gone = release-links linked cleared linked-bare p ∙ cleared-gone

  -- a link that is left hung before
  pub merge-was : (q : ℕ) (l : Link) → Memᴰ l (links after q) → (q ≡ p → ⊥) × Memᴰ l (links s q)
  merge-was q l h =
      cases (eqb q p)
      (λ e. absurd (Memᴰ.not-nil (rw merge-gone at (rw (eqb-true q p e) at h))))
      (λ e. (eqb-false q p e, rw (merge-links q (eqb-false q p e)) at h))

  merge-names : (q : ℕ) → named after q ≡ named cleared q
  unfolding do_merge
  merge-names q = named-same cleared (do_merge n p s) q (release-links linked cleared linked-bare)

  merge-card : (q : ℕ) → card after q ≡ cond (any (eqb q) linked && not (named after q)) free (card cleared q)
  unfolding do_merge
  merge-card q = rw (merge-names q) (release-card linked cleared linked-bare q)

  -- a place that is not free now is as the tables were written
  pub merge-occupied : (q : ℕ) → is_free (card after q) ≡ false → (q ≡ p → ⊥) × (card after q ≡ card filled q)
  merge-occupied q h =
      cases (any (eqb q) linked && not (named after q))
      (λ e. let c : card after q ≡ free = merge-card q ∙ rw e in clash (rw c) h)
      (λ e. let c : card after q ≡ card cleared q = merge-card q ∙ rw e in
      let d : q ≡ p → ⊥ = λ x. let z : card after q ≡ free = c ∙ rw x cleared-same in clash (rw z) h in
      (d, c ∙ cleared-other q d))

  -- frozen: if it was, and is still named
  pub merge-frozen : (q : ℕ) → is_frozen (card after q) ≡ cond (any (eqb q) linked) (named after q) (is_frozen (card s q))
  merge-frozen q =
      cases (any (eqb q) linked)
      (λ e. let z : is_frozen (card s q) ≡ true = linked-frozen q (any-member q linked e) in
      cases (named after q)
      (λ t. let c : card after q ≡ card cleared q = merge-card q ∙ rw (e, t) in rw (e, t) (ap is_frozen (c ∙ frozen-kept q z) ∙ z))
      (λ t. let c : card after q ≡ free = merge-card q ∙ rw (e, t) in rw (e, t) (ap is_frozen c)))
      (λ e. let c : card after q ≡ card cleared q = merge-card q ∙ rw e in
      rw e (ap is_frozen c ∙ cases (eqb q p)
      (λ t. let qp : q ≡ p = eqb-true q p t in rw (qp, cleared-same) (sym (live-not-frozen (card s p) p-live)))
      (λ t. ap is_frozen (cleared-other q (eqb-false q p t)) ∙ wrote-frozen s filled new_places tables filled-wrote q)))

  -- live: the new tables, and all but the old one
  pub merge-live : (q : ℕ) → is_live (card after q) ≡ cond (eqb q p) false (is_live (card filled q))
  merge-live q =
      cases (any (eqb q) linked && not (named after q))
      (λ e. let c : card after q ≡ free = merge-card q ∙ rw e in
      let z : is_frozen (card s q) ≡ true = linked-frozen q (any-member q linked (both_left (any (eqb q) linked) (not (named after q)) e)) in
      let f : is_live (card filled q) ≡ false = ap is_live (wrote-card s filled new_places tables filled-wrote q (frozen-not-free (card s q) z)) ∙ frozen-not-live (card s q) z in
      ap is_live c ∙ cases (eqb q p) (λ t. rw t) (λ t. rw (t, f)))
      (λ e. let c : card after q ≡ card cleared q = merge-card q ∙ rw e in
      ap is_live c ∙ cases (eqb q p)
      (λ t. let qp : q ≡ p = eqb-true q p t in rw (qp, eq-eqb p p refl, cleared-same))
      (λ t. rw t (ap is_live (cleared-other q (eqb-false q p t)))))

  -- ---- the rest

  pub merge-bytes : (q : ℕ) → bytes_at after q ≡ bytes_at filled q
  unfolding do_merge bytes_at
  merge-bytes q = ap (λ (bs : List (List ℕ)). get_or bs q []) (release-beside linked cleared).same-places

  pub merge-kept : (q : ℕ) → is_free (card s q) ≡ false → bytes_at after q ≡ bytes_at s q
  merge-kept q h = merge-bytes q ∙ wrote-bytes s filled new_places tables filled-wrote q h

  pub merge-levels : after.levels ≡ set s.levels n (replaced p new_places (level s n))
  unfolding do_merge
  merge-levels =
      (release-beside linked cleared).same-levels
      ∙ ap (λ (ls : List (List ℕ)). set ls n (replaced p new_places (level s n))) filled-wrote.same-levels

  pub merge-from : n < length s.levels → level after n ≡ replaced p new_places (level s n)
  unfolding level
  merge-from h = rw merge-levels (get_or-set_same s.levels n (replaced p new_places (level s n)) [] h)

  pub merge-other : (i : ℕ) → (i ≡ n → ⊥) → level after i ≡ level s i
  unfolding level
  merge-other i d = rw merge-levels (get_or-set_other s.levels n i (replaced p new_places (level s n)) [] d)

  pub merge-size : size after ≡ size s
  unfolding do_merge
  merge-size = (release-beside linked cleared).same_size ∙ size-with_card (with_level n (replaced p new_places (level s n)) filled) p free ∙ (unfold size in filled-wrote.same_size)

  pub merge-placed : length after.places ≡ size after
  unfolding do_merge
  merge-placed = ap length (release-beside linked cleared).same-places ∙ filled-wrote.same-placed ∙ filled-wrote.same_size ∙ sym merge-size

  pub merge-marks : after.marks ≡ s.marks
  unfolding do_merge
  merge-marks = (release-beside linked cleared).same-marks ∙ filled-wrote.same-marks

  pub merge-threshold : after.threshold ≡ s.threshold
  unfolding do_merge
  merge-threshold = (release-beside linked cleared).same-threshold ∙ filled-wrote.same-threshold

  pub merge-memory : after.memory ≡ s.memory
  unfolding do_merge
  merge-memory = (release-beside linked cleared).same_memory ∙ filled-wrote.same_memory

  pub merge-cursor : after.cursor < size after
  unfolding do_merge
  merge-cursor = rw ((release-beside linked cleared).same-cursor, merge-size, ← filled-wrote.same_size) filled-wrote.in-range

  -- the new places hold the new tables
  pub merge-new : map (table after) new_places ≡ tables
  unfolding table
  merge-new =
      sym (map-map entries (bytes_at after) new_places)
      ∙ ap (map entries) (map-cong (bytes_at after) (bytes_at filled) new_places (λ q _. merge-bytes q) ∙ filled-wrote.stored)
      ∙ stored_back tables (λ t h. (merged-pieces s S p p-occupied n t h).valid)
