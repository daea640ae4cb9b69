-- `make_rows` meets its contract: its test is the definition's, and what the store's own `make` returns and leaves is said by its contract.
use borrow.Author.Rules.{rules}
use borrow.Author.Tests.{eq-eqb, ne_eqb}
use lib.ListN.{length}
use Rattle.store_structs.proofs.make_rows.Statement.{statement}
use Rattle.store_structs.proofs.make_rows.Tie as tie

returns : tie.Need-returns-then-rows-cards
returns c =
    let a = c.args in
    rw (ne_eqb (length a.rows.now) a.cards c.if-rows-cards.true)

make-requires : tie.Need-make-requires
make-requires c κs = search rules

same_length : tie.Need-shape_of-area
same_length c = search rules

same-length-2 : tie.Need-shape_of-rows
same-length-2 c = search rules

same-length-3 : tie.Need-shape_of-lists
same-length-3 c = search rules

returns-2 : tie.Need-returns
returns-2 c =
    let d = c in
    let i = d in
    let a = i.args in
    rw (eq-eqb (length a.rows.now) a.cards i.if-rows-cards.false) d.make.ensures

pub make_rows_spec : {M : Type 1} → statement M
make_rows_spec =
    tie.close (tie.spec returns make-requires same_length same-length-2 same-length-3 returns-2)
