-- Rows of cards that gain a link: all stays legible, and the tables whose rows are untouched show the same spans. So after each link the tables
-- behind it are as they were, and what is left to hang is the same.
use Prim.Native.Nat.{ℕ, suc, ◌+◌, ◌≤◌, ◌<◌}
use mathlib.Core.Path.{◌≡◌, refl, sym, ◌∙◌, ap}
use mathlib.Core.List.Memᴰ
use mathlib.Core.List.{List, [], ◌∷◌, ◌++◌, Memᴰ}
use mathlib.Core.Logic.{⊎_elim}
use native.Mathlib.Omega.{arith}
use borrow.Author.Tests.{eqb-true, eqb-false}
use lib.Dec.{eqb}
use lib.ListN.{length, get_or, set, drop, length-set, length-append, length-drop, drop_of_length-le}
use lib.Seq.{get_or-set_same, get_or-set_other, get_or-drop}
use Rattle.table.specs.Entry.{Entry}
use Rattle.ldc.specs.Store.{Link, Card, live, frozen, Store, links_of, links, bytes_at, span_start, span_end}
use Rattle.ldc.specs.Lent.{store_of}
use Rattle.ldc.specs.Tidy.{Slice, Reach, responsible, holding}
use Rattle.ldc.specs.Steps.{link_to}
use Rattle.ldc.proofs.Basics.Cases.{cases}
use Rattle.ldc.proofs.Basics.ListLaws.{mem-get_or, get_or-mem}
use Rattle.ldc.proofs.Lent.Parts.{card-back, count-row_with, good-row_with}
use Rattle.ldc.proofs.Stores.Frame.{map-cong, span_start-same, span_end-same, spans_rise-same}
use Rattle.ldc.proofs.Stores.Spans.{spans-rise}
use Rattle.ldc.specs.Layout.{link_limit, link_count, card_of, row_with, link_at}
use Rattle.ldc.specs.Facts.{Spans}
use Rattle.book.specs.Row.{frozen_row}
use Rattle.book.proofs.Rows.{link-of, link-added, freeze-row, no_link}
use Rattle.book.specs.Pieces.{lent}
use Rattle.book.specs.Rows.{shown_by}
use Rattle.read.specs.Shown.{Tabled, Legible}
use Rattle.read.proofs.Pieces.{links-shown}
use Rattle.read.proofs.Shows.{carded}
use Rattle.compact_link.specs.Range.{high_of, slices_from, hung_row, Bare, Hosts}
use Rattle.compact_link.proofs.Slices.{high-other, spans-above, spans-behind}

-- ---- one row written

link_at-row : (c : Card) (w : List ℕ) → length (links_of c) ≤ link_limit → (i : ℕ) (d : Link) → i < length (links_of c) → link_at (row_with c w) i ≡ get_or (links_of c) i d
link_at-row c w few i d h =
    let e : links_of (card_of (row_with c w)) ≡ links_of c = ap links_of (card-back c w few) in
    sym (link-of (row_with c w) i d (rw e h)) ∙ ap (λ (ls : List Link). get_or ls i d) e

-- The row of a card whose links name tables.
pub legible-set : (area : List ℕ) (cards : List (List ℕ)) (q : ℕ) (c : Card) (w : List ℕ) → Legible area cards → q < length cards → length (links_of c) ≤ link_limit
    → ((l : Link) → Memᴰ l (links_of c) → Tabled area l.place) → Legible area (set cards q (row_with c w))
legible-set area cards q c w g h few named =
    let d : Link = no_link in
    let size : length (set cards q (row_with c w)) ≡ length cards = length-set cards q (row_with c w) in
    let at-q : get_or (set cards q (row_with c w)) q [] ≡ row_with c w = get_or-set_same cards q (row_with c w) [] h in
    let other : (p : ℕ) → (p ≡ q → ⊥) → get_or (set cards q (row_with c w)) p [] ≡ get_or cards p [] = λ p n. get_or-set_other cards q p (row_with c w) [] n in
    record {
      sized = rw size g.sized;
      few = rw size g.few;
      counted = λ p l. cases (eqb p q)
          (λ e. let pq : p ≡ q = eqb-true p q e in rw (pq, at-q, count-row_with c w) few)
          (λ e. rw (other p (eqb-false p q e)) (g.counted p (omega arith)));
      rowed = λ p l. cases (eqb p q)
          (λ e. let pq : p ≡ q = eqb-true p q e in rw (pq, at-q) (good-row_with c w))
          (λ e. rw (other p (eqb-false p q e)) (g.rowed p (omega arith)));
      linked = λ p i l k. cases (eqb p q)
          (λ e. let pq : p ≡ q = eqb-true p q e in
          let k' : i < length (links_of c) = rw (pq, at-q, count-row_with c w) at k in
          rw (pq, at-q, link_at-row c w few i d k') (named (get_or (links_of c) i d) (mem-get_or (links_of c) i d k')))
          (λ e. let o = other p (eqb-false p q e) in rw o (g.linked p i (omega arith) (rw o at k)));
    }

-- ---- tables with the same rows

module _ (area : List ℕ) (rows rows' : List (List ℕ)) where
  -- These tables have the same rows.
  abbrev pub SameRows : List ℕ → Type 0
  SameRows qs = (q : ℕ) → Memᴰ q qs → get_or rows' q [] ≡ get_or rows q []

  same-links : (q : ℕ) → get_or rows' q [] ≡ get_or rows q [] → links (shown_by area rows') q ≡ links (shown_by area rows) q
  same-links q e =
      links-shown (lent area rows' [] [] []) q ∙ ap (λ (row : List ℕ). links_of (card_of row)) e ∙ sym (links-shown (lent area rows [] [] []) q)

  same_bytes : (q : ℕ) → bytes_at (shown_by area rows') q ≡ bytes_at (shown_by area rows) q
  unfolding bytes_at store_of
  same_bytes q = refl

  same_end : (q : ℕ) → get_or rows' q [] ≡ get_or rows q [] → span_end (shown_by area rows') q ≡ span_end (shown_by area rows) q
  same_end q e = span_end-same (shown_by area rows) (shown_by area rows') q (same-links q e) (same_bytes q)

  same_start : (q : ℕ) → get_or rows' q [] ≡ get_or rows q [] → span_start (shown_by area rows') q ≡ span_start (shown_by area rows) q
  same_start q e = span_start-same (shown_by area rows) (shown_by area rows') q (same-links q e) (same_bytes q)

  same-spans : (low : ℕ) (qs : List ℕ) → SameRows qs → Spans (shown_by area rows) low qs → Spans (shown_by area rows') low qs
  same-spans low [] h s = tt
  same-spans low (q ∷ qs) h s =
      let e = h q (Memᴰ.head refl) in
      rw (same_start q e, same_end q e) (s.0, s.1, same-spans (suc (span_end (shown_by area rows) q)) qs (λ x m. h x (Memᴰ.tail m)) s.2)

  pub same-slices : (es : List Entry) (p from : ℕ) (qs : List ℕ) → SameRows qs → slices_from (shown_by area rows') es p from qs ≡ slices_from (shown_by area rows) es p from qs
  unfolding slices_from
  same-slices es p from qs h =
      ap (λ (rs : List Reach). holding es (responsible p from rs))
      (map-cong (λ q. record { place = q; end = span_end (shown_by area rows') q }) (λ q. record { place = q; end = span_end (shown_by area rows) q }) qs
      (λ q m. ap (λ (n : ℕ). record { place = q; end = n }) (same_end q (h q m))))

  pub same-below : (from : ℕ) (qs : List ℕ) → Legible area rows' → SameRows qs → Hosts area rows from qs → Hosts area rows' from qs
  same-below from qs g h b = record {
    legible = g;
    rising = record {
      listed = b.rising.listed;
      rises = spans_rise-same (shown_by area rows) (shown_by area rows') qs (λ q m. (same-links q (h q m), same_bytes q)) ∙ b.rising.rises;
    };
    roomy = λ i l. let e = h (get_or qs i 0) (mem-get_or qs i 0 l) in
        let r = b.roomy i l in
        record { held = r.held; summary = r.summary; shown = e ∙ r.shown; room = r.room };
    spans = same-spans from qs h b.spans;
  }

-- ---- the tables behind one of them

module _ (area : List ℕ) (cards : List (List ℕ)) (from : ℕ) (qs : List ℕ) (b : Hosts area cards from qs) (i : ℕ) (h : i < length qs) where
  abbrev s : Store
  s = shown_by area cards

  -- Behind a table that is not the last the next range begins one above its end; behind the last there is nothing.
  spans-high : Spans s (suc (high_of s qs i)) (drop (suc i) qs)
  spans-high =
      cases (eqb (suc i) (length qs))
      (λ e. let none : drop (suc i) qs ≡ [] = drop_of_length-le qs {i = suc i} (omega (arith, eqb-true (suc i) (length qs) e)) in rw none tt)
      (λ e. rw (high-other (shown_by area cards) qs i (eqb-false (suc i) (length qs) e)) (spans-behind (shown_by area cards) from qs i b.spans h))

  pub below-drop : Hosts area cards (suc (high_of s qs i)) (drop (suc i) qs)
  below-drop =
      let near : (j : ℕ) → j < length (drop (suc i) qs) → suc i + j < length qs = λ j l. omega (arith, length-drop (suc i) qs) in
      record {
        legible = b.legible;
        rising = record {
          listed = λ j l. rw (get_or-drop (suc i) qs j 0) (b.rising.listed (suc i + j) (near j l));
          rises = spans-rise (shown_by area cards) (suc (high_of (shown_by area cards) qs i)) (drop (suc i) qs) spans-high;
        };
        roomy = λ j l. rw (get_or-drop (suc i) qs j 0) (b.roomy (suc i + j) (near j l));
        spans = spans-high;
      }

  pub behind-other : (q : ℕ) → Memᴰ q (drop (suc i) qs) → q ≡ get_or qs i 0 → ⊥
  behind-other q m e =
      let over = spans-above (shown_by area cards) _ (drop (suc i) qs) q (spans-behind (shown_by area cards) from qs i b.spans h) m in
      let same : span_end (shown_by area cards) q ≡ span_end (shown_by area cards) (get_or qs i 0) = ap (span_end (shown_by area cards)) e in
      omega arith

  near-card : get_or qs i 0 < length cards
  near-card = carded area cards b.legible (get_or qs i 0) (b.rising.listed i h)

  -- One link more on the row of the i-th table.
  module _ (es : List Entry) (r : Slice) (on : r.on ≡ get_or qs i 0) (tabled : Tabled area r.place) where
    abbrev more : List Link
    more = (b.roomy i h).held ++ (link_to es r ∷ [])

    pub hung-row : hung_row es r cards ≡ set cards (get_or qs i 0) (row_with (live more) (b.roomy i h).summary)
    unfolding hung_row
    hung-row =
        rw (on, (b.roomy i h).shown)
        (ap (λ (row : List ℕ). set cards (get_or qs i 0) row) (link-added (b.roomy i h).held (link_to es r) (b.roomy i h).summary (b.roomy i h).room))

    named : (l : Link) → Memᴰ l more → Tabled area l.place
    named l m =
        let row = b.roomy i h in
        let d : Link = no_link in
        ⊎_elim
        (λ old. let spot = get_or-mem row.held d old in
        let few : length row.held ≤ link_limit = omega (arith, row.room) in
        let count : spot.0 < link_count (get_or cards (get_or qs i 0) []) = rw (row.shown, count-row_with (live row.held) row.summary) spot.1 in
        let t = b.legible.linked (get_or qs i 0) spot.0 near-card count in
        let here : link_at (get_or cards (get_or qs i 0) []) spot.0 ≡ l =
        rw row.shown (link_at-row (live row.held) row.summary few spot.0 d spot.1 ∙ spot.2) in
        rw here at t)
        (λ new. ⊎_elim (λ e. let p : l.place ≡ r.place = ap (λ (x : Link). x.place) e in rw p tabled) (λ t. absurd (elim t [ ])) (Memᴰ.cases_cons new))
        (Memᴰ.append_cases row.held m)

    pub hung-legible : Legible area (hung_row es r cards)
    hung-legible =
        rw hung-row
        (legible-set area cards (get_or qs i 0) (live more) (b.roomy i h).summary b.legible near-card (rw length-append (omega (arith, (b.roomy i h).room))) named)

    hung-same : SameRows area cards (hung_row es r cards) (drop (suc i) qs)
    hung-same q m = rw hung-row (get_or-set_other cards (get_or qs i 0) q (row_with (live more) (b.roomy i h).summary) [] (behind-other q m))

    -- The tables behind are as they were.
    pub hung-below : Hosts area (hung_row es r cards) (suc (high_of s qs i)) (drop (suc i) qs)
    hung-below = same-below area cards (hung_row es r cards) (suc (high_of s qs i)) (drop (suc i) qs) hung-legible hung-same below-drop

    pub hung-slices : (p low : ℕ)
        → slices_from (shown_by area (hung_row es r cards)) es p low (drop (suc i) qs) ≡ slices_from (shown_by area cards) es p low (drop (suc i) qs)
    hung-slices p low = same-slices area cards (hung_row es r cards) es p low (drop (suc i) qs) hung-same

-- ---- the chosen table frozen

module _ (area : List ℕ) (cards : List (List ℕ)) (from : ℕ) (qs : List ℕ) (p : ℕ) (other : (i : ℕ) → i < length qs → get_or qs i 0 ≡ p → ⊥) where
  frozen_same : SameRows area cards (set cards p (frozen_row (get_or cards p []))) qs
  frozen_same q m =
      let spot = get_or-mem qs 0 m in
      get_or-set_other cards p q (frozen_row (get_or cards p [])) [] (λ e. other spot.0 spot.1 (spot.2 ∙ e))

  pub frozen-below : p < length cards → Bare (get_or cards p []) → Hosts area cards from qs → Hosts area (set cards p (frozen_row (get_or cards p []))) from qs
  frozen-below h e b =
      let row : frozen_row (get_or cards p []) ≡ row_with frozen e.summary = rw e.shown (freeze-row e.summary) in
      same-below area cards (set cards p (frozen_row (get_or cards p []))) from qs
      (rw row (legible-set area cards p frozen e.summary b.legible h (omega arith) (λ l m. absurd (elim m [ ])))) frozen_same b

  pub frozen-slices : (es : List Entry) → slices_from (shown_by area (set cards p (frozen_row (get_or cards p [])))) es p from qs ≡ slices_from (shown_by area cards) es p from qs
  frozen-slices es = same-slices area cards (set cards p (frozen_row (get_or cards p []))) es p from qs frozen_same
