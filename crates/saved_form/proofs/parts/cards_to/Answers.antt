-- `cards_to` meets its contract: the cards in turn, as the definition has them.
use Rattle.std.proofs.Common.{sym, ◌∙◌, ap, List, ℕ}
use Rattle.saved_book.specs.Form.{cards_to, card_to, cards_start, in_turn}
use Rattle.saved_form.proofs.Fields.{card-within}
use Rattle.saved_form.proofs.parts.cards_to.Goals as goal

pub in_turn-requires-clause-within : goal.in_turn-requires-clause-within
in_turn-requires-clause-within c at end h t = card-within _ at end (sym t)

pub returns : goal.returns
unfolding cards_to
returns c =
    let s = c.args.s.now in
    c.in_turn.ensures (card_to s) (λ p at r e h t. t ∙ ap (λ (x : List ℕ). card_to x at) e)
    ∙ ap (λ (n : ℕ). in_turn n (card_to s) cards_start) (c.from-n.ensures ∙ c.get_u16.ensures)
