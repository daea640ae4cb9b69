-- A chosen table of kept memory goes down: what the parts of the step may assume, and that their pieces are the memory of the store after it.
use Prim.Native.Nat.{ℕ, zero, suc, ◌*◌, ◌≤◌, ◌<◌}
use mathlib.Core.Path.{◌≡◌, refl, sym, ◌∙◌, ap, ap₂}
use mathlib.Core.Bool.{true, false}
use mathlib.Core.List.{List, [], ◌∷◌, Memᴰ}
use native.Mathlib.Omega.{arith}
use lib.ListN.{length, get_or, set, length-map}
use Rattle.table.specs.Entry.{Entry}
use Rattle.table.specs.Table.{entries, place_of}
use Rattle.ldc.specs.Lists.{is_empty}
use Rattle.ldc.specs.Store.{Store, size, frozen, card, links, bytes_at, table, level, span_end, with_card, with_level}
use Rattle.ldc.specs.Lent.{Lent, places_in, store_of, lent_of}
use Rattle.ldc.specs.Tidy.{Slice, Reach, moved, linked, responsible, holding, slices_of, down_step}
use Rattle.ldc.specs.Steps.{replaced, leaves, do_move, hang, do_link}
use Rattle.ldc.proofs.Basics.ListLaws.{get_or-mem, mem-get_or}
use Rattle.ldc.proofs.Lent.Changes.{cards-with_card}
use Rattle.ldc.proofs.Lent.Shows.{sizes, lent_of-store_of}
use Rattle.ldc.proofs.Stores.Changes.{card-other}
use Rattle.ldc.proofs.Stores.Facts.{listed-live, listed-once, level-spans}
use Rattle.ldc.proofs.Stores.Frame.{map-cong, span_end-same, links-same}
use Rattle.ldc.proofs.Stores.Hang.{Beside, hang-beside}
use Rattle.ldc.proofs.Stores.Sound.{Sound}
use Rattle.ldc.proofs.Stores.SoundRules.{threshold-eight}
use Rattle.ldc.specs.Layout.{most_places, level_count, card_of, table_summary, row_of, length_in, items_in}
use Rattle.book.specs.Pieces.{lent}
use Rattle.book.specs.Row.{frozen_row}
use Rattle.book.specs.Rows.{shown_by}
use Rattle.book.proofs.Rows.{freeze-row}
use Rattle.read.specs.Shown.{Tabled, Listed}
use Rattle.read.specs.Look.{Levels}
use Rattle.read.proofs.Levels.{sound-kept, levels-kept}
use Rattle.read.proofs.Pieces.{bytes-shown, level-items, level-length}
use Rattle.read.proofs.Rank.{spans}
use Rattle.read.proofs.Shows.{carded}
use Rattle.book_edit.specs.Shown.{Fits}
use Rattle.book_edit.proofs.Keeping.{fits_kept}
use Rattle.compact_link.specs.Range.{slices_from, hung_rows, Bare, Hosts}
use Rattle.compact_link.specs.Down.{Ready}
use Rattle.compact_link.proofs.Hung.{Open, live-row, hung-cards}

-- Lent memory by its five pieces.
lent_is : (area : List ℕ) (cards : List (List ℕ)) (lists head memory : List ℕ) (m : Lent)
    → area ≡ m.area → cards ≡ m.cards → lists ≡ m.lists → head ≡ m.head → memory ≡ m.memory → lent area cards lists head memory ≡ m
lent_is area cards lists head memory m a c l h y = λ i. record { area = a i; cards = c i; lists = l i; head = h i; memory = y i }

-- Hanging changes cards only.
module _ (es : List Entry) (rs : List Slice) (t : Store) where
  b : Beside t (hang es rs t)
  b = hang-beside es rs t

  hang-area : (lent_of (hang es rs t)).area ≡ (lent_of t).area
  unfolding lent_of
  hang-area = rw b.same-places

  hang-lists : (lent_of (hang es rs t)).lists ≡ (lent_of t).lists
  unfolding lent_of
  hang-lists = rw (b.same-places, b.same-levels)

  hang-head : (lent_of (hang es rs t)).head ≡ (lent_of t).head
  unfolding lent_of
  hang-head = rw (b.same-threshold, b.same-cursor, b.same-marks, b.same-levels)

  hang-memory : (lent_of (hang es rs t)).memory ≡ (lent_of t).memory
  unfolding lent_of
  hang-memory = rw b.same_memory

module _ (m : Lent) (n p : ℕ) (r : Ready m n p) where
  abbrev s : Store
  s = store_of m

  S : Sound s
  S = sound-kept m r.kept r.shape.memory r.shape.memory-bytes r.shape.area-bytes

  L : Levels m.area m.cards m.lists m.head
  L = levels-kept m r.kept r.shape.memory r.shape.memory-bytes r.shape.area-bytes

  back : lent_of s ≡ m
  back = lent_of-store_of m r.shape r.kept.sizes r.kept.unbroken

  -- ---- sizes and lists

  places : places_in m.area ≡ length m.cards
  places = sym (sizes m r.kept.sizes).cards

  pub ready-level : n ≤ 2
  ready-level = r.chosen.highest

  pub ready-places : (1 ≤ length m.cards) × (length m.cards ≤ most_places)
  ready-places = (omega (arith, places, (sizes m r.kept.sizes).fewest), L.legible.few)

  pub ready-lists : length m.lists ≡ level_count * length m.cards
  ready-lists = L.sized

  pub ready-length : (i : ℕ) → i < level_count → length_in m.head i ≤ length m.cards
  ready-length i h = L.lengths i h

  pub ready-fits : Fits s
  ready-fits = fits_kept m r.shape r.kept

  pub ready-size : length m.cards ≡ size s
  unfolding store_of size
  ready-size = sym (length-map m.cards card_of)

  pub ready-shown : (m.lists ≡ (lent_of s).lists) × (m.head ≡ (lent_of s).head)
  ready-shown = (sym (ap (λ (x : Lent). x.lists) back), sym (ap (λ (x : Lent). x.head) back))

  items : (i : ℕ) → i < level_count → level s i ≡ items_in (length m.cards) m.lists m.head i
  items i h = level-items m r.kept i h

  pub ready-long : (i : ℕ) → i < level_count → length (level s i) ≡ length_in m.head i
  ready-long i h = level-length m r.kept i h

  -- ---- the chosen table

  listed : (i : ℕ) → i < level_count → Listed m.area (items_in (length m.cards) m.lists m.head i)
  listed zero h = L.newest
  listed (suc i) h = (L.rising i (omega arith)).listed

  pub ready-tabled : Tabled m.area p
  ready-tabled =
      let ps = items_in (length m.cards) m.lists m.head n in
      let spot = get_or-mem ps 0 (rw (items n (omega (arith, ready-level))) at r.chosen.on) in
      rw spot.2 at (listed n (omega (arith, ready-level)) spot.0 spot.1)

  pub ready-carded : p < length m.cards
  ready-carded = carded m.area m.cards L.legible p ready-tabled

  pub ready-table : table s p ≡ entries (place_of m.area p)
  unfolding table
  ready-table = ap entries (bytes-shown m (sizes m r.kept.sizes).area p)

  -- ---- the tables below

  abbrev below : List ℕ
  below = items_in (length m.cards) m.lists m.head (suc n)

  below-level : level s (suc n) ≡ below
  below-level = items (suc n) (omega (arith, ready-level))

  below-live : (q : ℕ) → Memᴰ q (level s (suc n)) → Open s q
  below-live q q∈ = (listed-live s S (suc n) q q∈, omega (arith, r.chosen.calm q q∈, threshold-eight s S.rule_a-kept))

  below_other : (q : ℕ) → Memᴰ q (level s (suc n)) → q ≡ p → ⊥
  below_other q q∈ e = listed-once s S (suc n) n q (λ x. omega arith) q∈ (rw e r.chosen.on)

  pub ready-below : Hosts m.area m.cards 0 below
  ready-below =
      let up = L.rising n (omega (arith, ready-level)) in
      record {
        legible = L.legible;
        rising = up;
        roomy = λ i h.
            let q∈ : Memᴰ (get_or below i 0) (level s (suc n)) = rw below-level (mem-get_or below i 0 h) in
            let o = below-live (get_or below i 0) q∈ in
            record { held = links s (get_or below i 0); summary = table_summary (bytes_at s (get_or below i 0)); shown = sym (ap (λ (x : Lent). get_or x.cards (get_or below i 0) []) back) ∙ live-row s (get_or below i 0) o.0; room = o.1 };
        spans = spans m.area m.cards below r.shape.area-bytes L.legible up;
      }

  pub ready-apart : (i : ℕ) → i < length below → get_or below i 0 ≡ p → ⊥
  ready-apart i h e = below_other (get_or below i 0) (rw below-level (mem-get_or below i 0 h)) e

  -- ---- the step

  pub left-empty : length (level s (suc n)) ≡ 0 → level (leaves n p s) (suc n) ≡ []
  unfolding leaves level
  left-empty h =
      lib.Seq.get_or-set_other s.levels n (suc n) (replaced p [] (level s n)) [] (λ e. omega arith) ∙ no_items (level s (suc n)) h
    where
      no_items : (xs : List ℕ) → length xs ≡ 0 → xs ≡ []
      no_items [] e = refl
      no_items (x ∷ xs) e = absurd (omega arith)

  pub moves : length (level s (suc n)) ≡ 0 → down_step s n p ≡ moved n p
  unfolding down_step
  moves h = rw (empty (level s (suc n)) h)
    where
      empty : (xs : List ℕ) → length xs ≡ 0 → is_empty xs ≡ true
      empty [] e = refl
      empty (x ∷ xs) e = absurd (omega arith)

  pub links-down : (length (level s (suc n)) ≡ 0 → ⊥) → down_step s n p ≡ linked n p (slices_of s n p)
  unfolding down_step
  links-down h = rw (filled (level s (suc n)) h)
    where
      filled : (xs : List ℕ) → (length xs ≡ 0 → ⊥) → is_empty xs ≡ false
      filled [] e = absurd (e refl)
      filled (x ∷ xs) e = refl

  pub moved-lent : (lists head : List ℕ) → lists ≡ (lent_of (with_level (suc n) (p ∷ []) (leaves n p s))).lists
      → head ≡ (lent_of (with_level (suc n) (p ∷ []) (leaves n p s))).head
      → lent m.area m.cards lists head m.memory ≡ lent_of (do_move n p s)
  unfolding do_move leaves
  moved-lent lists head gl gh =
      let a : (lent_of s).area ≡ (lent_of (do_move n p s)).area = unfold lent_of do_move leaves in refl in
      let c : (lent_of s).cards ≡ (lent_of (do_move n p s)).cards = unfold lent_of do_move leaves in refl in
      let y : (lent_of s).memory ≡ (lent_of (do_move n p s)).memory = unfold lent_of do_move leaves in refl in
      lent_is m.area m.cards lists head m.memory (lent_of (do_move n p s))
      (sym (ap (λ (x : Lent). x.area) back) ∙ a) (sym (ap (λ (x : Lent). x.cards) back) ∙ c) gl gh
      (sym (ap (λ (x : Lent). x.memory) back) ∙ y)

  -- The slices, as area and cards show them.
  slices-shown : slices_from (shown_by m.area m.cards) (entries (place_of m.area p)) p 0 below ≡ slices_of s n p
  unfolding slices_from slices_of
  slices-shown =
      rw (below-level, ready-table)
      (ap (λ (rs : List Reach). holding (entries (place_of m.area p)) (responsible p 0 rs))
      (map-cong (λ q. record { place = q; end = span_end (shown_by m.area m.cards) q }) (λ q. record { place = q; end = span_end s q }) below
      (λ q _. ap (λ (k : ℕ). record { place = q; end = k })
      (span_end-same s (shown_by m.area m.cards) q (unfold links card store_of in refl) (unfold bytes_at store_of in refl)))))

  abbrev first : Store
  first = with_card p frozen (leaves n p s)

  first-open : (q : ℕ) → Memᴰ q (level s (suc n)) → Open first q
  first-open q q∈ =
      let c : card first q ≡ card s q = card-other (leaves n p s) p frozen q (below_other q q∈) ∙ (let z : card (leaves n p s) q ≡ card s q = unfold leaves card in refl in z) in
      let o = below-live q q∈ in
      (rw c o.0, rw (links-same s first q c) o.1)

  -- the chosen table's row, and the row frozen
  pub ready-bare : Bare (get_or m.cards p [])
  ready-bare = record {
    summary = table_summary (bytes_at s p);
    shown = sym (ap (λ (x : Lent). get_or x.cards p []) back) ∙ live-row s p (listed-live s S n p r.chosen.on) ∙ rw r.chosen.bare;
  }

  frozen-row : row_of frozen (bytes_at (leaves n p s) p) ≡ frozen_row (get_or m.cards p [])
  unfolding row_of leaves bytes_at ready-bare table_summary
  frozen-row = sym (rw ready-bare.shown (freeze-row (table_summary (bytes_at s p))))

  linked-cards : hung_rows (table s p) (slices_of s n p) (set m.cards p (frozen_row (get_or m.cards p []))) ≡ (lent_of (do_link n p (slices_of s n p) s)).cards
  unfolding do_link
  linked-cards =
      let same : slices_from s (table s p) p 0 (level s (suc n)) ≡ slices_of s n p = unfold slices_from slices_of in refl in
      let left : (lent_of (leaves n p s)).cards ≡ (lent_of s).cards = unfold lent_of leaves in refl in
      let rows : (lent_of first).cards ≡ set m.cards p (frozen_row (get_or m.cards p [])) =
      cards-with_card (leaves n p s) p frozen
      ∙ ap₂ (λ (xs : List (List ℕ)) (row : List ℕ). set xs p row) (left ∙ ap (λ (x : Lent). x.cards) back) frozen-row in
      rw (← same, ← rows) (hung-cards s (table s p) p 0 (level s (suc n)) first (level-spans s S n) first-open)

  pub linked-lent : (cards : List (List ℕ)) (lists head : List ℕ)
      → cards ≡ hung_rows (entries (place_of m.area p)) (slices_from (shown_by m.area m.cards) (entries (place_of m.area p)) p 0 below) (set m.cards p (frozen_row (get_or m.cards p [])))
      → lists ≡ (lent_of (leaves n p s)).lists → head ≡ (lent_of (leaves n p s)).head
      → lent m.area cards lists head m.memory ≡ lent_of (do_link n p (slices_of s n p) s)
  unfolding do_link
  linked-lent cards lists head ce gl gh =
      let rs = slices_of s n p in
      let a : (lent_of s).area ≡ (lent_of first).area = unfold lent_of leaves in refl in
      let l : (lent_of (leaves n p s)).lists ≡ (lent_of first).lists = unfold lent_of in refl in
      let h : (lent_of (leaves n p s)).head ≡ (lent_of first).head = unfold lent_of in refl in
      let y : (lent_of s).memory ≡ (lent_of first).memory = unfold lent_of leaves in refl in
      lent_is m.area cards lists head m.memory (lent_of (do_link n p rs s))
      (sym (ap (λ (x : Lent). x.area) back) ∙ a ∙ sym (hang-area (table s p) rs first))
      (ce ∙ ap₂ (λ (es : List Entry) (xs : List Slice). hung_rows es xs (set m.cards p (frozen_row (get_or m.cards p [])))) (sym ready-table) slices-shown ∙ linked-cards)
      (gl ∙ l ∙ sym (hang-lists (table s p) rs first)) (gh ∙ h ∙ sym (hang-head (table s p) rs first))
      (sym (ap (λ (x : Lent). x.memory) back) ∙ y ∙ sym (hang-memory (table s p) rs first))
