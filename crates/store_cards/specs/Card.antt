-- A card that is lent as a struct, as the row of words that the definition of the store speaks of.
use Rattle.std.specs.Prelude.{ℕ, List, [], ◌∷◌, ◌++◌, map}
use Rattle.summary.specs.Summary as summary
use Rattle.ldc.specs.Layout.{link_words}
use Rattle.book.specs.Row.{the_link}
use Rattle.store_cards.specs.declared.Card.{Card}

-- The words of a card, and of all cards.
unfoldable pub words_of : Card → List ℕ
words_of c = c.state ∷ c.count ∷ link_words (map the_link c.links) ++ summary.words_of c.summary

unfoldable pub rows_of : List Card → List (List ℕ)
rows_of cards = map words_of cards

-- What stands where there is no card.
abbrev pub no_card : Card
no_card = record { state = 0; count = 0; links = []; summary = [] }
