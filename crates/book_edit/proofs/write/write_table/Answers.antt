-- `write_table` meets its contract: the place taken is one of the area's, and is written whole; then its summary goes to its row, which is
-- live without links.
use Rattle.std.proofs.Common.{ℕ, ◌≡◌, ◌<◌, List, [], refl, ◌∙◌, length, get_or, set, arith, rules}
use lib.ListN.{length-set}
use lib.Seq.{set-set, get_or-set_same}
use Rattle.std.proofs.lemmas.List.Edits.{sets}
use Rattle.std.specs.Prelude.{Some}
use Rattle.table.specs.Table.{zeros}
use Rattle.table.proofs.Zeros.{length-zeros}
use Rattle.summary.specs.Summary.{summary_words}
use Rattle.ldc.specs.Store.{live}
use Rattle.ldc.specs.Layout.{summary_start, table_summary, row_with}
use Rattle.book.specs.Place.{free_at}
use Rattle.book.proofs.Free.{found-free}
use Rattle.book.proofs.Rows.{live-summary}
use Rattle.book_edit.proofs.write.write_table.Goals as goal

-- The place taken has a card.
below : (rows : List (List ℕ)) (from p : ℕ) → from < length rows → free_at (length rows) rows from ≡ Some p → p < length rows
below rows from p h e = (found-free rows (length rows) from p h e).0

-- Its row is written twice.
summed : (rows mid exit : List (List ℕ)) (p : ℕ) (words table : List ℕ) → p < length rows
    → mid ≡ set rows p (row_with (live []) (zeros summary_words))
    → exit ≡ set mid p (sets (get_or mid p []) summary_start words) → words ≡ table_summary table
    → exit ≡ set rows p (row_with (live []) (table_summary table))
unfolding table_summary
summed rows mid exit p words table h m e w =
    let bare : List ℕ = row_with (live []) (zeros summary_words) in
    let row : get_or mid p [] ≡ bare = rw m (get_or-set_same rows p bare [] h) in
    let full : sets bare summary_start (table_summary table) ≡ row_with (live []) (table_summary table) =
    live-summary (zeros summary_words) (table_summary table) (length-zeros summary_words) refl in
    e ∙ rw (row, w, full, m) (set-set rows p bare (row_with (live []) (table_summary table)))

pub overflow_mul-taken : goal.overflow_mul-taken
overflow_mul-taken c =
    let a = c.args in
    omega (arith, below a.cards.now a.head.position.cursor c.take-taken.result.place c.requires.1.1.0 c.take-taken.ensures.first, c.requires.0)

pub write_place-requires : goal.write_place-requires
write_place-requires c =
    let a = c.args in
    let h = below a.cards.now a.head.position.cursor c.take-taken.result.place c.requires.1.1.0 c.take-taken.ensures.first in
    (omega (arith, c.requires.0), c.requires.1.0.0)

pub set_summary-requires : goal.set_summary-requires
set_summary-requires c =
    let a = c.args in
    let e = c.take-taken.ensures in
    rw (e.row, length-set) (below a.cards.now a.head.position.cursor c.take-taken.result.place c.requires.1.1.0 e.first)

pub returns : goal.returns
unfolding table_summary
returns c =
    let a = c.args in
    let e = c.take-taken.ensures in
    let h = below a.cards.now a.head.position.cursor c.take-taken.result.place c.requires.1.1.0 e.first in (
      record {
        first = e.first;
        row = summed a.cards.now _ _ c.take-taken.result.place c.of_table.result a.table.now h e.row c.set_summary.ensures c.of_table.ensures;
        next = e.next;
      },
      search rules,
    )
