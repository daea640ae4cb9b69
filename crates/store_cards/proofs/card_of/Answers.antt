-- `card_of` meets its contract: state, count, all links and the summary are all words of a row.
use Rattle.std.proofs.Common.{◌≡◌, [], ◌∷◌, ◌++◌, length, ◌∙◌, arith}
use Rattle.ldc.specs.Layout.{row_size, state_of, link_count, link_at, link_words}
use Rattle.store_cards.specs.Card.{words_of}
use Rattle.store_cards.proofs.Words.{elements-all}
use Rattle.store_cards.proofs.card_of.Goals as goal

pub returns : goal.returns
unfolding words_of state_of link_count link_at
returns c =
    let long : length c.args.row ≡ row_size = omega (arith, c.well_formed) in
    let w = c.bytes_of-summary.ensures.1 in
    let s = c.state.ensures in
    let n = c.link_count.ensures in
    let e0 = c.link_at.ensures in
    let e1 = c.link_at-2.ensures in
    let e2 = c.link_at-3.ensures in
    let e3 = c.link_at-4.ensures in
    let e4 = c.link_at-5.ensures in
    let e5 = c.link_at-6.ensures in
    let e6 = c.link_at-7.ensures in
    let e7 = c.link_at-8.ensures in
    (λ k. s k ∷ n k ∷ (link_words (e0 k ∷ e1 k ∷ e2 k ∷ e3 k ∷ e4 k ∷ e5 k ∷ e6 k ∷ e7 k ∷ []) ++ w k))
    ∙ elements-all 0 c.args.row row_size long
