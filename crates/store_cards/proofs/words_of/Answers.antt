-- `words_of` meets its contract: eight links are all links of a card, and four words its summary.
use Rattle.std.proofs.Common.{ℕ, ◌≡◌, List, [], ◌∷◌, ◌++◌, length, get_or, arith}
use Rattle.std.specs.Prelude.{map}
use mathlib.Core.Path.{ap₂}
use Rattle.ldc.specs.Layout.{link_words, link_limit}
use Rattle.book.specs.Row.{the_link}
use Rattle.book.specs.declared.row.Link.{Link}
use Rattle.store_cards.specs.Card.{words_of}
use Rattle.store_cards.proofs.Words.{elements-all}
use Rattle.store_cards.proofs.words_of.Goals as goal

pub returns : goal.returns
unfolding words_of
returns c =
    let card = c.args.card in
    let eight : length card.links ≡ link_limit = omega (arith, c.well_formed) in
    ap₂
    (λ (ls : List Link) (ws : List ℕ). card.state ∷ card.count
    ∷ (link_words (map the_link ls) ++ (get_or ws 0 0 ∷ get_or ws 1 0 ∷ get_or ws 2 0 ∷ get_or ws 3 0 ∷ [])))
    (elements-all (record { place = 0; low = record { value = 0 }; high = record { value = 0 }; number = 0 }) card.links link_limit eight)
    c.words_of.ensures
