-- Encode after decode, field by field: the bytes of what is read at a position, and behind them what stands behind it, are what stood there.
-- From left to right, number by number. Of a card this needs its row to be good (no links on a card that is not live); nothing else of the rules.
use Prim.Native.Nat.{ℕ, zero, suc, ◌+◌, ◌*◌, ◌-◌, ◌^◌, ◌≤◌, ◌<◌}
use mathlib.Core.Path.{◌≡◌, refl, ◌∙◌, ap}
use mathlib.Core.Bool.{true, ◌&&◌}
use mathlib.Core.List.{List, ◌++◌, map, append_assoc, Memᴰ}
use mathlib.Core.Logic.{⊎_elim}
use mathlib.Core.Option.{some}
use native.Mathlib.Omega.{arith}
use borrow.Author.Tests.{eqb-true}
use lib.Dec.{eqb}
use lib.ListN.{length, drop}
use Rattle.coding.specs.Number.{number_at, Bytes}
use Rattle.coding.proofs.NumberLaws.{number-back, number_at-bound}
use Rattle.table.specs.Entry.{entry_at, length_at}
use Rattle.table.specs.Table.{zeros, entries_bytes, entries_at}
use Rattle.table.specs.Valid.{Values}
use Rattle.table.proofs.Encode.{entry-back}
use Rattle.table.proofs.Found.{entry_at-key}
use Rattle.table.proofs.Tests.{and_parts, or_parts}
use Rattle.summary.specs.Summary.{summary_words}
use Rattle.ldc.specs.Lists.{all, flat}
use Rattle.ldc.specs.Store.{links_of}
use Rattle.ldc.specs.Layout.{link_size, link_limit, row_head, state_of, link_count, links_at, card_of, state_word, mark_of, mark_good}
use Rattle.ldc.specs.Lent.{row_good}
use Rattle.ldc.proofs.Lent.Parts.{links-back, state-of, links-of}
use Rattle.saved_book.specs.Saved.{number_bytes, key_bytes, mark_bytes, link_bytes, card_bytes, list_bytes}
use Rattle.saved_book.specs.Form.{places_saved, card_head, link_width, count_saved, card_end, card_to, list_end, list_to, entry_to, in_turn}
use Rattle.saved_book.specs.Opened.{link_saved, links_saved, row_saved, rows_saved, items_saved, lists_saved}
use Rattle.saved_book.proofs.Forms.{CardAt, card-turn, ListAt, list-turn, entry-turn}
use Rattle.saved_book.proofs.Shown.{Small}

length-links_saved : (n : ℕ) (b : List ℕ) (at : ℕ) → length (links_saved n b at) ≡ n
length-links_saved zero b at = refl
length-links_saved (suc n) b at = ap suc (length-links_saved n b (at + link_width))

length-items_saved : (n : ℕ) (b : List ℕ) (at : ℕ) → length (items_saved n b at) ≡ n
length-items_saved zero b at = refl
length-items_saved (suc n) b at = ap suc (length-items_saved n b (at + 2))

pub length-rows_saved : (n : ℕ) (b : List ℕ) (at : ℕ) → length (rows_saved n b at) ≡ n
length-rows_saved zero b at = refl
length-rows_saved (suc n) b at = ap suc (length-rows_saved n b (card_end b at))

pub length-lists_saved : (n : ℕ) (b : List ℕ) (at : ℕ) → length (lists_saved n b at) ≡ n
length-lists_saved zero b at = refl
length-lists_saved (suc n) b at = ap suc (length-lists_saved n b (list_end b at))

-- No list saved is longer than P.
pub lists-few : (n : ℕ) (b : List ℕ) (at end : ℕ) → in_turn n (list_to b) at ≡ some end
    → (ps : List ℕ) → Memᴰ ps (lists_saved n b at) → length ps ≤ places_saved b
lists-few zero b at end h ps x'' = elim x'' [ ]
lists-few (suc n) b at end h ps (Memᴰ.head e) =
    let t = list-turn b n at end h in
    rw (e, length-items_saved (number_at 2 b at) b (at + 2)) t.0.few
lists-few (suc n) b at end h ps (Memᴰ.tail m) = lists-few n b (list_end b at) end (list-turn b n at end h).1 ps m

-- What the row of a card that stands in saved bytes says.
row-says : (b : List ℕ) (at : ℕ) → count_saved b at ≤ link_limit → row_good (row_saved b at) ≡ true
    → (state_word (card_of (row_saved b at)) ≡ number_at 2 b at) × (links_of (card_of (row_saved b at)) ≡ links_saved (count_saved b at) b (at + card_head))
unfolding row_saved state_of link_count
row-says b at few good =
    let n = count_saved b at in
    let ls = links_saved n b (at + card_head) in
    let rest : List ℕ = zeros (link_size * link_limit - link_size * n) ++ zeros summary_words in
    let back : links_at n (row_saved b at) row_head ≡ ls =
    rw (length-links_saved n b (at + card_head)) at (links-back ls (row_saved b at) row_head rest refl) in
    (state-of (row_saved b at) good, links-of (row_saved b at) good few ∙ back)

-- A mark's bytes are those of its flag and key.
mark-bytes : (flag key : ℕ) → mark_good flag key ≡ true → mark_bytes (mark_of flag key) ≡ number_bytes flag ++ key_bytes key
unfolding mark_of mark_good mark_bytes
mark-bytes flag key h =
    ⊎_elim
    (λ q. let e : flag ≡ 1 = eqb-true flag 1 q in rw e)
    (λ q. let p = and_parts (eqb flag 0) (eqb key 0) q in
    let e : flag ≡ 0 = eqb-true flag 0 p.0 in
    let k : key ≡ 0 = eqb-true key 0 p.1 in
    rw (e, k))
    (or_parts (eqb flag 1) (eqb flag 0 && eqb key 0) h)

module _ (b : List ℕ) (by : Bytes b) where
  -- ---- marks

  pub mark-back : (at : ℕ) → mark_good (number_at 2 b at) (number_at 8 b (at + 2)) ≡ true → at + 10 ≤ length b
      → mark_bytes (mark_of (number_at 2 b at) (number_at 8 b (at + 2))) ++ drop (at + 10) b ≡ drop at b
  unfolding number_bytes key_bytes
  mark-back at good room =
      let e : at + 2 + 8 ≡ at + 10 = omega arith in
      let key = rw e at (number-back 8 b (at + 2) by (omega arith)) in
      rw (mark-bytes _ _ good, append_assoc, key) (number-back 2 b at by (omega arith))

  -- ---- cards

  link-back : (at : ℕ) → at + link_width ≤ length b → link_bytes (link_saved b at) ++ drop (at + link_width) b ≡ drop at b
  unfolding link_bytes number_bytes key_bytes
  link-back at room =
      let e10 : at + 2 + 8 ≡ at + 10 = omega arith in
      let e18 : at + 10 + 8 ≡ at + 18 = omega arith in
      let e20 : at + 18 + 2 ≡ at + 20 = omega arith in
      let low = rw e10 at (number-back 8 b (at + 2) by (omega arith)) in
      let high = rw e18 at (number-back 8 b (at + 10) by (omega arith)) in
      let number = rw e20 at (number-back 2 b (at + 18) by (omega arith)) in
      simp append_assoc (rw (number, high, low) (number-back 2 b at by (omega arith)))

  all-links-back : (n at : ℕ) → at + link_width * n ≤ length b
      → flat (map link_bytes (links_saved n b at)) ++ drop (at + link_width * n) b ≡ drop at b
  all-links-back zero at room = let e : at + link_width * 0 ≡ at = omega arith in rw e
  all-links-back (suc n) at room =
      let e : at + link_width + link_width * n ≡ at + link_width * suc n = omega arith in
      let rest = rw e at (all-links-back n (at + link_width) (omega arith)) in
      rw (append_assoc, rest) (link-back at (omega arith))

  card-back : (at : ℕ) → CardAt b at → row_good (row_saved b at) ≡ true
      → card_bytes (card_of (row_saved b at)) ++ drop (card_end b at) b ≡ drop at b
  unfolding card_bytes number_bytes
  card-back at c good =
      let n = count_saved b at in
      let says = row-says b at c.few good in
      let room : at + (card_head + link_width * n) ≤ length b = c.room in
      let e4 : at + 2 + 2 ≡ at + 4 = omega arith in
      let end : at + card_head + link_width * n ≡ card_end b at = omega arith in
      let links = rw end at (all-links-back n (at + card_head) (omega arith)) in
      let count = rw e4 at (number-back 2 b (at + 2) by (omega arith)) in
      rw (says.0, says.1, length-links_saved n b (at + card_head))
      (simp append_assoc (rw (links, count) (number-back 2 b at by (omega arith))))

  pub cards-back : (n at end : ℕ) → in_turn n (card_to b) at ≡ some end → all row_good (rows_saved n b at) ≡ true
      → flat (map card_bytes (map card_of (rows_saved n b at))) ++ drop end b ≡ drop at b
  cards-back zero at end h good = let e : at ≡ end = cc in rw e
  cards-back (suc n) at end h good =
      let t = card-turn b n at end h in
      let g = and_parts (row_good (row_saved b at)) (all row_good (rows_saved n b (card_end b at))) good in
      rw (append_assoc, cards-back n (card_end b at) end t.1 g.1) (card-back at t.0 g.0)

  -- ---- lists

  items_back : (n at : ℕ) → at + 2 * n ≤ length b → flat (map number_bytes (items_saved n b at)) ++ drop (at + 2 * n) b ≡ drop at b
  unfolding number_bytes
  items_back zero at room = let e : at + 2 * 0 ≡ at = omega arith in rw e
  items_back (suc n) at room =
      let e : at + 2 + 2 * n ≡ at + 2 * suc n = omega arith in
      let rest = rw e at (items_back n (at + 2) (omega arith)) in
      rw (append_assoc, rest) (number-back 2 b at by (omega arith))

  list_back : (at : ℕ) → ListAt b at → list_bytes (items_saved (number_at 2 b at) b (at + 2)) ++ drop (list_end b at) b ≡ drop at b
  unfolding list_bytes number_bytes
  list_back at l =
      let n = number_at 2 b at in
      let room : at + (2 + 2 * n) ≤ length b = l.room in
      let end : at + 2 + 2 * n ≡ list_end b at = omega arith in
      let items = rw end at (items_back n (at + 2) (omega arith)) in
      rw (length-items_saved n b (at + 2), append_assoc, items) (number-back 2 b at by (omega arith))

  pub lists_back : (n at end : ℕ) → in_turn n (list_to b) at ≡ some end → flat (map list_bytes (lists_saved n b at)) ++ drop end b ≡ drop at b
  lists_back zero at end h = let e : at ≡ end = cc in rw e
  lists_back (suc n) at end h =
      let t = list-turn b n at end h in
      rw (append_assoc, lists_back n (list_end b at) end t.1) (list_back at t.0)

  -- ---- memory entries

  pub entries-back : (n at end : ℕ) → in_turn n (entry_to b) at ≡ some end
      → (entries_bytes (entries_at n b at) ++ drop end b ≡ drop at b) × (Small (entries_at n b at) × Values (entries_at n b at))
  unfolding entries_bytes entries_at
  entries-back zero at end h = let e : at ≡ end = cc in (rw e, (tt, tt))
  entries-back (suc n) at end h =
      let t = entry-turn b n at end h in
      let e = entry-back b by at t.0.form t.0.room in
      let r = entries-back n (at + length_at b at) end t.1 in
      let key : (entry_at b at).key < 2 ^ 64 = rw (entry_at-key b at) (number_at-bound 8 b (at + 4) by) in
      (rw (append_assoc, r.0) e.0, (((e.1.0, key), r.1.0), (e.1, r.1.1)))
