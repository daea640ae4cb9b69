-- The search of a level: spans rise, so the tables whose spans end below a key stand in front.
use Prim.Native.Nat.{ℕ, zero, suc, ◌≤◌, ◌<◌, ◌^◌}
use mathlib.Core.Path.{sym}
use mathlib.Core.List.{List, [], ◌∷◌, Memᴰ}
use native.Mathlib.Omega.{arith}
use borrow.Author.Tests.{lt-ltb, le-ltb}
use lib.Dec.{ltb}
use lib.ListN.{length, get_or}
use Rattle.coding.specs.Number.{Bytes}
use Rattle.table.specs.Table.{entries, place_of}
use Rattle.table.specs.Search.{least_key, greatest_key}
use Rattle.table.proofs.Tests.{cases}
use Rattle.ldc.specs.Store.{Store, links, table, span_start, span_end}
use Rattle.ldc.proofs.Basics.ListLaws.{get_or-mem}
use Rattle.ldc.proofs.Stores.Spans.{Readable, least_end-own, greatest_end-own, least-greatest, rise-all}
use Rattle.ldc.specs.Facts.{Spans}
use Rattle.read.specs.Shown.{Legible, Rising}
use Rattle.read.specs.Level.{rank}
use Rattle.read.proofs.Shows.{table-shown, readable}
use Rattle.book.specs.Rows.{shown_by}

-- ---- the rank

pub rank-few : (s : Store) (k : ℕ) (ps : List ℕ) → rank s k ps ≤ length ps
unfolding rank
rank-few s k [] = omega arith
rank-few s k (p ∷ ps) = let r = rank-few s k ps in cases (ltb (span_end s p) k) (λ q. rw q (omega arith)) (λ q. rw q (omega arith))

-- A table whose span does not end below the key is not in front.
pub rank_below : (s : Store) (k : ℕ) (ps : List ℕ) (j : ℕ) → j < length ps → k ≤ span_end s (get_or ps j 0) → rank s k ps ≤ j
unfolding rank
rank_below s k [] j h b = absurd (omega arith)
rank_below s k (p ∷ ps) zero h b = rw (le-ltb (span_end s p) k b) (omega arith)
rank_below s k (p ∷ ps) (suc j) h b =
    let r = rank_below s k ps j (omega arith) b in
    cases (ltb (span_end s p) k) (λ q. rw q (omega arith)) (λ q. rw q (omega arith))

ends-rise : (s : Store) (low : ℕ) (ps : List ℕ) (j : ℕ) → Spans s low ps → j < length ps → low ≤ span_end s (get_or ps j 0)
ends-rise s low [] j h hj = absurd (omega arith)
ends-rise s low (p ∷ ps) zero h hj = omega (arith, h.0, h.1)
ends-rise s low (p ∷ ps) (suc j) h hj =
    let r = ends-rise s (suc (span_end s p)) ps j h.2 (omega arith) in omega (arith, h.0, h.1)

-- One whose span ends below the key is.
pub rank-above : (s : Store) (low k : ℕ) (ps : List ℕ) (j : ℕ) → Spans s low ps → j < length ps → span_end s (get_or ps j 0) < k → j < rank s k ps
unfolding rank
rank-above s low k [] j h hj b = absurd (omega arith)
rank-above s low k (p ∷ ps) zero h hj b = rw (lt-ltb (span_end s p) k b) (omega arith)
rank-above s low k (p ∷ ps) (suc j) h hj b =
    let e = ends-rise s (suc (span_end s p)) ps j h.2 (omega arith) in
    let r = rank-above s (suc (span_end s p)) k ps j h.2 (omega arith) b in
    rw (lt-ltb (span_end s p) k (omega arith)) (omega arith)

starts-rise : (s : Store) (low : ℕ) (ps : List ℕ) (j : ℕ) → Spans s low ps → j < length ps → low ≤ span_start s (get_or ps j 0)
starts-rise s low [] j h hj = absurd (omega arith)
starts-rise s low (p ∷ ps) zero h hj = h.0
starts-rise s low (p ∷ ps) (suc j) h hj =
    let r = starts-rise s (suc (span_end s p)) ps j h.2 (omega arith) in omega (arith, h.0, h.1)

-- The tables before one whose span does not start above the key are in front.
pub rank-start : (s : Store) (low k : ℕ) (ps : List ℕ) (j : ℕ) → Spans s low ps → j < length ps → span_start s (get_or ps j 0) ≤ k → j ≤ rank s k ps
unfolding rank
rank-start s low k [] j h hj b = absurd (omega arith)
rank-start s low k (p ∷ ps) zero h hj b = omega arith
rank-start s low k (p ∷ ps) (suc j) h hj b =
    let e = starts-rise s (suc (span_end s p)) ps j h.2 (omega arith) in
    let r = rank-start s (suc (span_end s p)) k ps j h.2 (omega arith) b in
    rw (lt-ltb (span_end s p) k (omega arith)) (omega arith)

-- The least key of a table is in its span.
least-spanned : (s : Store) (p : ℕ) → Readable s p → (span_start s p ≤ least_key (table s p)) × (least_key (table s p) ≤ span_end s p)
unfolding span_start span_end
least-spanned s p r = (
  least_end-own (least_key (table s p)) (links s p),
  omega (arith, greatest_end-own (greatest_key (table s p)) (links s p), least-greatest 0 (2 ^ 64) (table s p) r.some r.keys),
)

-- ---- in lent pieces

module _ (area : List ℕ) (cards : List (List ℕ)) (items : List ℕ) (b : Bytes area) (g : Legible area cards) (r : Rising area cards items) where
  pub all-readable : (q : ℕ) → Memᴰ q items → Readable (shown_by area cards) q
  all-readable q m =
      let spot = get_or-mem items 0 m in
      readable area cards g q b (rw spot.2 at (r.listed spot.0 spot.1))

  pub spans : Spans (shown_by area cards) 0 items
  spans = rise-all (shown_by area cards) items all-readable r.rises

  pub least-within : (j : ℕ) → j < length items
      → (span_start (shown_by area cards) (get_or items j 0) ≤ least_key (entries (place_of area (get_or items j 0))))
      × (least_key (entries (place_of area (get_or items j 0))) ≤ span_end (shown_by area cards) (get_or items j 0))
  least-within j h =
      rw (sym (table-shown area cards g (get_or items j 0)))
      (least-spanned (shown_by area cards) (get_or items j 0) (readable area cards g (get_or items j 0) b (r.listed j h)))
