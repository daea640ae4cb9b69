-- `free_at_least` meets its contract: as many as are left are wanted of this row and of those behind it.
use Rattle.std.proofs.Common.{◌≡◌, ◌+◌, [], true, false, sym, ap, ◌∙◌, drop, get_or, leb, arith}
use lib.ListN.{drop_of_length-le}
use Rattle.book.specs.Place.{free_row, free_rows}
use Rattle.book.proofs.Free.{count_turn, least-turn, least-none}
use Rattle.book_places.proofs.free.free_at_least.Goals.{then-is_free, else-is_free}
use Rattle.book_places.proofs.free.free_at_least.Goals as goal

pub loop-row-preserved : goal.loop-row-preserved
loop-row-preserved c =
    let l = c.loop-row in
    let rows = c.args.cards.now in
    let behind = free_rows (drop (l.row-index + 1) rows) in
    let turned = l.invariant ∙ ap (leb l.left) (count_turn rows l.row-index (omega arith)) in
    elim c.if-is_free.branch [
      | then-is_free w ↦
          let here : free_row (get_or rows l.row-index []) ≡ true = sym c.is_free.ensures ∙ w.if-is_free.true in
          rw here at turned ∙ least-turn l.left behind c.if-left-eq0.false ∙ rw w.left-is
      | else-is_free w ↦
          let here : free_row (get_or rows l.row-index []) ≡ false = sym c.is_free.ensures ∙ w.if-is_free.false in
          rw here at turned ∙ rw w.left-is
    ]

pub returns : goal.returns
unfolding free_rows
returns c =
    let l = c.loop-row in
    let none : drop l.row-index c.args.cards.now ≡ [] = drop_of_length-le _ {i = l.row-index} (omega arith) in
    sym (l.invariant ∙ ap (λ rows. leb l.left (free_rows rows)) none ∙ least-none l.left)
