-- The counts over the rows are those of the report: free, frozen and links over the cards, list lengths, and the memory's entries.
use Prim.Native.Nat.{ℕ, suc, ◌*◌, ◌≤◌, ◌<◌}
use mathlib.Core.Path.{◌≡◌, refl, ◌∙◌}
use mathlib.Core.Bool.{Bool}
use mathlib.Core.List.{List, [], ◌∷◌, map}
use native.Mathlib.Omega.{arith}
use lib.ListN.{length, get_or, length-append}
use Rattle.coding.proofs.NumberLaws.{length-bytes_of}
use Rattle.table.specs.Table.{count_of}
use Rattle.table.proofs.Tests.{cases}
use Rattle.table.proofs.Entries.{length-entries}
use Rattle.ldc.specs.Lists.{how_many, flat}
use Rattle.ldc.specs.Store.{Card, is_free, is_frozen, links_of, level}
use Rattle.ldc.specs.Lent.{Lent, store_of}
use Rattle.ldc.specs.Read.{serve_report}
use Rattle.ldc.specs.Layout.{link_count, card_of, level_count, length_in}
use Rattle.book.proofs.Rows.{count-of}
use Rattle.read.specs.Shown.{Kept}
use Rattle.ldc.specs.Request.{report_kind, done_result}
use Rattle.serve_read.specs.Tally.{free_in, frozen_in, links_counted, counts, report_reply}
use Rattle.wire.specs.Reply.{numbers, replied}
use Rattle.read.proofs.Pieces.{row-good, row-eight, level-length}

-- At most as many as there are rows, and eight links for each.
how-few : (test : List ℕ → Bool) (rows : List (List ℕ)) → how_many test rows ≤ length rows
how-few test [] = omega arith
how-few test (row ∷ rows) = let r = how-few test rows in cases (test row) (λ q. rw q (omega arith)) (λ q. rw q (omega arith))

pub free-few : (rows : List (List ℕ)) → free_in rows ≤ length rows
unfolding free_in
free-few rows = how-few (λ row. is_free (card_of row)) rows

pub frozen-few : (rows : List (List ℕ)) → frozen_in rows ≤ length rows
unfolding frozen_in
frozen-few rows = how-few (λ row. is_frozen (card_of row)) rows

pub links-few : (rows : List (List ℕ)) → ((p : ℕ) → p < length rows → link_count (get_or rows p []) ≤ 8) → links_counted rows ≤ 8 * length rows
unfolding links_counted
links-few [] h = omega arith
links-few (row ∷ rows) h =
    let r = links-few rows (λ p hp. h (suc p) (omega arith)) in
    omega (arith, h 0 (omega arith))

-- Counting cards is counting rows.
how-map : (test : Card → Bool) (rows : List (List ℕ)) → how_many test (map card_of rows) ≡ how_many (λ row. test (card_of row)) rows
how-map test [] = refl
how-map test (row ∷ rows) = rw (how-map test rows)

links-map : (rows : List (List ℕ)) → ((p : ℕ) → p < length rows → length (links_of (card_of (get_or rows p []))) ≡ link_count (get_or rows p []))
    → length (flat (map links_of (map card_of rows))) ≡ links_counted rows
unfolding links_counted
links-map [] h = refl
links-map (row ∷ rows) h =
    let r = links-map rows (λ p hp. h (suc p) (omega arith)) in
    length-append (links_of (card_of row)) (flat (map links_of (map card_of rows))) ∙ rw (h 0 (omega arith), r)

pub length-counts : (cards : List (List ℕ)) (head memory : List ℕ) → length (numbers (counts cards head memory)) ≡ 16
unfolding numbers
length-counts cards head memory = simp (length-append, length-bytes_of)

module _ (m : Lent) (k : Kept m) where
  levels : (n : ℕ) → n < level_count → length (level (store_of m) n) ≡ length_in m.head n
  levels n h = level-length m k n h

  report-body : (serve_report (store_of m)).body ≡ numbers (counts m.cards m.head m.memory)
  unfolding serve_report numbers free_in frozen_in
  report-body =
      let free : how_many is_free (store_of m).cards ≡ how_many (λ row. is_free (card_of row)) m.cards = unfold store_of in how-map is_free m.cards in
      let frozen : how_many is_frozen (store_of m).cards ≡ how_many (λ row. is_frozen (card_of row)) m.cards = unfold store_of in how-map is_frozen m.cards in
      let links : length (flat (map links_of (store_of m).cards)) ≡ links_counted m.cards =
      unfold store_of in links-map m.cards (λ p h. count-of (get_or m.cards p []) (row-good m k p h) (row-eight m k p h)) in
      let held : length (store_of m).memory ≡ count_of m.memory = unfold store_of in length-entries m.memory in
      rw (free, frozen, links, held, levels 0 (omega arith), levels 1 (omega arith), levels 2 (omega arith), levels 3 (omega arith))

  -- The reply by the counts is the one that is served.
  pub report-served : report_reply m.cards m.head m.memory ≡ replied report_kind (serve_report (store_of m))
  report-served =
      let done : (serve_report (store_of m)).result ≡ done_result = unfold serve_report in refl in
      rw (done, report-body)
