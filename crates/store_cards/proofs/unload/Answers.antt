-- `unload` meets its contract: a turn changes the card of the next row, and when the loop is left all cards are changed.
use Rattle.std.proofs.Common.{ℕ, ◌≡◌, length, sym, ap, ◌∙◌, add-one, arith}
use Rattle.store_cards.specs.Card.{rows_of}
use Rattle.store_cards.proofs.Words.{mixed, mixed-all, rows-length, unloaded}
use Rattle.store_cards.proofs.unload.Goals as goal

pub loop-p-preserved : goal.loop-p-preserved
loop-p-preserved c =
    let p = c.loop-p.p in
    let changed = unloaded c.args.rows.now c.args.cards.now c.loop-p.cards p c.card_at.result
    c.requires (omega arith) c.loop-p.invariant c.card_at.ensures in
    rw (add-one p) (ap rows_of c.change_card.ensures ∙ changed)

pub returns : goal.returns
returns c =
    let cards = c.args.cards.now in
    let rows = c.args.rows.now in
    let same : length rows ≡ length (rows_of cards) = c.requires ∙ sym (rows-length cards) in
    let all : c.loop-p.p ≡ length (rows_of cards) = omega arith in
    c.loop-p.invariant ∙ ap (λ (k : ℕ). mixed k rows (rows_of cards)) all ∙ mixed-all rows (rows_of cards) same
