-- One turn of the loop that hangs slices: a link more on the responsible table, and what is left to hang is what the tables behind it take.
use Prim.Native.Nat.{ℕ, suc, ◌+◌, ◌-◌, ◌≤◌, ◌<◌, ◌^◌}
use mathlib.Core.Path.{◌≡◌, refl, sym, ◌∙◌, ap}
use mathlib.Core.List.{List, []}
use native.Mathlib.Omega.{arith}
use native.Mathlib.Numerals.{add-one}
use lib.ListN.{length, get_or, take, drop, length-set, length-drop, drop_of_length-le}
use lib.Seq.{take_all, drop-drop}
use Rattle.coding.specs.Number.{Bytes}
use Rattle.table.specs.Entry.{Entry, key_at, entry_at}
use Rattle.table.specs.Table.{entries, place_of}
use Rattle.table.specs.Search.{seek_in, shown}
use Rattle.std.specs.Prelude as code
use Rattle.table.proofs.Found.{shown-seek, entry_at-key}
use Rattle.table.specs.Valid.{Keys}
use Rattle.ldc.specs.Store.{Store}
use Rattle.ldc.specs.Tidy.{Slice, greatest}
use Rattle.ldc.specs.Facts.{Spans}
use Rattle.read.specs.Shown.{Tabled}
use Rattle.read.proofs.Rank.{all-readable}
use Rattle.read.proofs.Shows.{place-valid}
use Rattle.compact_link.specs.Range.{keeper, high_of, slice_at, slices_from, hung_row, hung_rows, Hosts}
use Rattle.compact_link.proofs.Slices.{Next, Spent, spent-of, next_of, keys-member, keeper-few, high-other, slices-nil, slices-spent, slices-met, end-room}
use Rattle.compact_link.proofs.Rows.{hung-below, hung-slices}
use Rattle.book.specs.Rows.{shown_by}

-- ---- what a search of a table says

module _ (s : List ℕ) (from : ℕ) where
  pub seek-spent : seek_in s from ≡ code.None → Spent from (entries s)
  unfolding shown
  seek-spent h = spent-of from (entries s) (sym (shown-seek s from) ∙ ap (shown s) h)

  pub seek-next : (at key lo hi : ℕ) → Keys lo hi (entries s) → seek_in s from ≡ code.Some at → key ≡ key_at s at → Next from key (entries s)
  unfolding shown
  seek-next at key lo hi h f k =
      rw (k ∙ sym (entry_at-key s at)) (next_of from lo hi (entries s) (entry_at s at) h (sym (shown-seek s from) ∙ ap (shown s) f))

-- What is found from a point on is a key.
pub next-bound : (from k lo hi : ℕ) (es : List Entry) → Keys lo hi es → Next from k es → k < hi
next-bound from k lo hi es h n = omega (arith, n.holds.1.1, (keys-member lo hi es n.holds.0 h n.holds.1.0).1)

-- The items from one on, as the code takes them.
pub rest-items : (items : List ℕ) (first : ℕ) → take (length items - first) (drop first items) ≡ drop first items
rest-items items first = take_all (length items - first) (drop first items) (rw length-drop (omega arith))

pub rest_some : (items : List ℕ) (first : ℕ) → first < length items → 1 ≤ length (drop first items)
rest_some items first h = rw length-drop (omega arith)

module _ (s : Store) (es : List Entry) (p low : ℕ) (cards : List (List ℕ)) where
  -- With no table left, or no entry, nothing more is hung.
  pub none_left : (items : List ℕ) (first : ℕ) → length items ≤ first → hung_rows es (slices_from s es p low (drop first items)) cards ≡ cards
  unfolding hung_rows
  none_left items first h =
      let e : drop first items ≡ [] = drop_of_length-le items {i = first} h in
      rw (e, slices-nil s es p low)

  pub none-spent : (qs : List ℕ) → Spent low es → Spans s low qs → hung_rows es (slices_from s es p low qs) cards ≡ cards
  unfolding hung_rows
  none-spent qs h o = rw (slices-spent s es p low qs h o)

-- What a turn leaves.
pub record Turned (area : List ℕ) (cards cards' : List (List ℕ)) (items : List ℕ) (es : List Entry) (p from first at high : ℕ) : Type 0 where
  pub near : first + (at + 1) ≤ length items
  pub same : length cards' ≡ length cards
  pub below : Hosts area cards' (high + 1) (drop (first + (at + 1)) items)
  pub left : hung_rows es (slices_from (shown_by area cards) es p from (drop first items)) cards
      ≡ hung_rows es (slices_from (shown_by area cards') es p (high + 1) (drop (first + (at + 1)) items)) cards'
  pub room : (first + (at + 1) ≡ length items → ⊥) → high < greatest

module _ (area : List ℕ) (cards cards' : List (List ℕ)) (qs : List ℕ) (es : List Entry) (p from k at high : ℕ) (bytes : Bytes area)
    (b : Hosts area cards from qs) (some' : 1 ≤ length qs) (t : Tabled area p) (met : Next from k es) (key : k ≤ greatest)
    (ae : at ≡ keeper (shown_by area cards) k qs) (he : high ≡ high_of (shown_by area cards) qs at)
    (ce : cards' ≡ hung_row es (slice_at (shown_by area cards) p from qs at) cards) where
  r : Slice
  r = slice_at (shown_by area cards) p from qs at

  few : at < length qs
  few = rw ae (keeper-few (shown_by area cards) k qs some')

  on : r.on ≡ get_or qs at 0
  unfolding r slice_at
  on = refl

  place : Tabled area r.place
  unfolding r slice_at
  place = t

  turn_below : Hosts area cards' (suc high) (drop (suc at) qs)
  unfolding r
  turn_below = rw (ce, he) (hung-below area cards from qs b at few es r on place)

  turn-left : hung_rows es (slices_from (shown_by area cards) es p from qs) cards ≡ hung_rows es (slices_from (shown_by area cards') es p (suc high) (drop (suc at) qs)) cards'
  unfolding hung_rows r
  turn-left =
      ap (λ (rs : List Slice). hung_rows es rs cards) (slices-met (shown_by area cards) es p from k qs met key b.spans some')
      ∙ rw (← ae, ← he)
      (ap (λ (rs : List Slice). hung_rows es rs (hung_row es r cards)) (sym (hung-slices area cards from qs b at few es r on place p (suc high)))
      ∙ rw (← ce))

  turn-room : (suc at ≡ length qs → ⊥) → high < greatest
  turn-room n =
      rw (he, high-other (shown_by area cards) qs at n)
      (end-room (shown_by area cards) from qs at (all-readable area cards qs bytes b.legible b.rising) b.spans (omega (arith, few)))

-- A turn over the tables from one on.
pub turned : (area : List ℕ) (cards cards' : List (List ℕ)) (items part : List ℕ) (es : List Entry) (p from first k at high : ℕ) → Bytes area
    → part ≡ drop first items → first < length items → Hosts area cards from (drop first items) → Tabled area p → Next from k es → k ≤ greatest
    → at ≡ keeper (shown_by area cards) k part → high ≡ high_of (shown_by area cards) part at
    → cards' ≡ hung_row es (slice_at (shown_by area cards) p from part at) cards
    → Turned area cards cards' items es p from first at high
unfolding hung_row
turned area cards cards' items part es p from first k at high bytes pe l b t met key ae he ce =
    let qs : List ℕ = drop first items in
    let long : length qs ≡ length items - first = length-drop first items in
    let some' : 1 ≤ length qs = omega arith in
    let ae' : at ≡ keeper (shown_by area cards) k qs = rw pe at ae in
    let he' : high ≡ high_of (shown_by area cards) qs at = rw pe at he in
    let ce' : cards' ≡ hung_row es (slice_at (shown_by area cards) p from qs at) cards = rw pe at ce in
    let next : drop (suc at) qs ≡ drop (first + (at + 1)) items = drop-drop (suc at) first items ∙ rw (add-one at) in
    let high1 : suc high ≡ high + 1 = omega arith in
    let f = few area cards cards' qs es p from k at high bytes b some' t met key ae' he' ce' in
    record {
      near = omega arith;
      same = ap length ce ∙ length-set cards _ _;
      below = rw (← next, ← high1) (turn_below area cards cards' qs es p from k at high bytes b some' t met key ae' he' ce');
      left = rw (← next, ← high1) (turn-left area cards cards' qs es p from k at high bytes b some' t met key ae' he' ce');
      room = λ n. turn-room area cards cards' qs es p from k at high bytes b some' t met key ae' he' ce' (λ e. n (omega arith));
    }

-- A turn of the loop: the search gave the next entry, and a slice was hung on the table that is responsible for its key.
pub hung-turn : (area : List ℕ) (cards cards' : List (List ℕ)) (items : List ℕ) (p from first spot k at high : ℕ) → Bytes area
    → first < length items → Hosts area cards from (drop first items) → Tabled area p
    → seek_in (place_of area p) from ≡ code.Some spot → k ≡ key_at (place_of area p) spot
    → at ≡ keeper (shown_by area cards) k (take (length items - first) (drop first items))
    → high ≡ high_of (shown_by area cards) (take (length items - first) (drop first items)) at
    → cards' ≡ hung_row (entries (place_of area p)) (slice_at (shown_by area cards) p from (take (length items - first) (drop first items)) at) cards
    → Turned area cards cards' items (entries (place_of area p)) p from first at high
hung-turn area cards cards' items p from first spot k at high bytes l b t f ke ae he ce =
    let es : List Entry = entries (place_of area p) in
    let keys = (place-valid area p bytes t).keys in
    let n = seek-next (place_of area p) from spot k 0 (2 ^ 64) keys f ke in
    let small = next-bound from k 0 (2 ^ 64) es keys n in
    turned area cards cards' items (take (length items - first) (drop first items)) es p from first k at high bytes (rest-items items first)
    l b t n (omega (arith, small)) ae he ce
