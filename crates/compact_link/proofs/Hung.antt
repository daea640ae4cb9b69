-- Rows with slices hung on are those of the store with slices hung on, where each of the tables is live and has room for one link more.
-- By induction on the tables: spans rise, so that none of them comes twice.
use Prim.Native.Nat.{ℕ, suc, ◌<◌}
use mathlib.Core.Path.{◌≡◌, refl, sym, ◌∙◌, ap}
use mathlib.Core.Bool.{true}
use mathlib.Core.List.{List, [], ◌∷◌, ◌++◌, Memᴰ}
use native.Mathlib.Omega.{arith}
use lib.ListN.{length, get_or}
use Rattle.table.specs.Entry.{Entry}
use Rattle.ldc.specs.Lists.{is_empty}
use Rattle.ldc.specs.Store.{live, Store, size, card, links, is_live, bytes_at, within, span_end, with_card}
use Rattle.ldc.specs.Lent.{lent_of}
use Rattle.ldc.specs.Tidy.{Slice, greatest}
use Rattle.ldc.specs.Steps.{link_to, hang}
use Rattle.ldc.proofs.Basics.Cases.{cases}
use Rattle.ldc.proofs.Lent.Changes.{cards-with_card}
use Rattle.ldc.proofs.Stores.CardFacts.{live-not-free, live-links}
use Rattle.ldc.proofs.Stores.Changes.{card-other, below-size}
use Rattle.ldc.proofs.Stores.Frame.{links-same}
use Rattle.ldc.specs.Layout.{link_limit, table_summary, row_with, row_of}
use Rattle.ldc.specs.Facts.{Spans}
use Rattle.book.proofs.Rows.{get_d_rows, link-added}
use Rattle.compact_link.specs.Range.{slices_from, hung_row, hung_rows}
use Rattle.compact_link.proofs.Slices.{slices-nil, slices-last, slices-short, slices-take, slices-pass, spans-above}

-- A live table with room for a link.
abbrev pub Open : Store → ℕ → Type 0
Open t q = (is_live (card t q) ≡ true) × (length (links t q) < link_limit)

-- The row of a live card.
pub live-row : (t : Store) (q : ℕ) → is_live (card t q) ≡ true → get_or (lent_of t).cards q [] ≡ row_with (live (links t q)) (table_summary (bytes_at t q))
unfolding lent_of links card size bytes_at row_of
live-row t q h =
    get_d_rows t.cards t.places q (below-size t q (live-not-free (card t q) h))
    ∙ ap (λ c. row_of c (get_or t.places q [])) (live-links (card t q) h)

abbrev hung_one : (chosen : List Entry) → Slice → Store → Store
hung_one es r t = with_card r.on (live (links t r.on ++ (link_to es r ∷ []))) t

hung-one : (es : List Entry) (r : Slice) (t : Store) → Open t r.on → hung_row es r (lent_of t).cards ≡ (lent_of (hung_one es r t)).cards
unfolding hung_row
hung-one es r t o =
    rw (live-row t r.on o.0, link-added (links t r.on) (link_to es r) (table_summary (bytes_at t r.on)) o.1)
    (unfold row_of in sym (cards-with_card t r.on (live (links t r.on ++ (link_to es r ∷ [])))))

open-other : (es : List Entry) (r : Slice) (t : Store) (q : ℕ) → (q ≡ r.on → ⊥) → Open t q → Open (hung_one es r t) q
open-other es r t q n o =
    let c = card-other t r.on (live (links t r.on ++ (link_to es r ∷ []))) q n in
    (rw c o.0, rw (links-same t (hung_one es r t) q c) o.1)

module _ (s : Store) (es : List Entry) (p : ℕ) where
  pub hung-cards : (from : ℕ) (qs : List ℕ) (t : Store) → Spans s from qs → ((q : ℕ) → Memᴰ q qs → Open t q)
      → hung_rows es (slices_from s es p from qs) (lent_of t).cards ≡ (lent_of (hang es (slices_from s es p from qs) t)).cards
  unfolding hung_rows
  hung-cards from [] t h o = rw (slices-nil s es p from)
  hung-cards from (q ∷ []) t h o =
      cases (is_empty (within from greatest es))
      (λ e. rw (slices-short s es p from q e))
      (λ e. rw (slices-last s es p from q e) (hung-one es (record { place = p; on = q; low = from; high = greatest }) t (o q (Memᴰ.head refl))))
  hung-cards from (q ∷ x ∷ qs) t h o =
      cases (is_empty (within from (span_end s q) es))
      (λ e. rw (slices-pass s es p from q x qs e) (hung-cards (suc (span_end s q)) (x ∷ qs) t h.2 (λ y m. o y (Memᴰ.tail m))))
      (λ e. let r : Slice = record { place = p; on = q; low = from; high = span_end s q } in
      rw (slices-take s es p from q x qs e)
      (ap (λ (rows : List (List ℕ)). hung_rows es (slices_from s es p (suc (span_end s q)) (x ∷ qs)) rows) (hung-one es r t (o q (Memᴰ.head refl)))
      ∙ hung-cards (suc (span_end s q)) (x ∷ qs) (hung_one es r t) h.2
      (λ y m. open-other es r t y
      (λ z. let over = spans-above s (suc (span_end s q)) (x ∷ qs) y h.2 m in
      let same : span_end s y ≡ span_end s q = ap (span_end s) z in omega arith)
      (o y (Memᴰ.tail m)))))
