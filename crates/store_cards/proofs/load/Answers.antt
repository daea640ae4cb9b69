-- `load` meets its contract: a turn writes the row of the next card, and when the loop is left all rows are written.
use Rattle.std.proofs.Common.{ℕ, ◌≡◌, length, set, sym, ap, ◌∙◌, add-one, arith}
use Rattle.store_cards.specs.Card.{words_of, rows_of}
use Rattle.store_cards.proofs.Words.{mixed, mixed-all, rows-length, loaded}
use Rattle.store_cards.proofs.load.Goals as goal

pub loop-p-preserved : goal.loop-p-preserved
loop-p-preserved c =
    let p = c.loop-p.p in
    let cards = c.args.cards.now in
    let old = c.args.rows.now in
    rw (add-one p) (
    c.put_row.ensures
    ∙ ap (λ rows. set rows p (words_of c.read_card.result)) c.loop-p.invariant
    ∙ ap (λ card. set (mixed p (rows_of cards) old) p (words_of card)) c.read_card.ensures
    ∙ loaded cards old p c.requires (omega arith)
    )

pub returns : goal.returns
returns c =
    let cards = c.args.cards.now in
    let old = c.args.rows.now in
    let all : c.loop-p.p ≡ length old = omega arith in
    c.loop-p.invariant ∙ ap (λ (k : ℕ). mixed k (rows_of cards) old) all ∙ mixed-all (rows_of cards) old (rows-length cards ∙ sym c.requires)
