-- One row: its links, the row frozen, and with one link more.
use Rattle.std.specs.Prelude.{ℕ, ◌+◌, List, [], ◌∷◌, set}
use Rattle.std.proofs.lemmas.List.Edits.{sets}
use Rattle.ldc.specs.Store.{Link, links_of}
use Rattle.ldc.specs.Layout.{frozen_state, link_count, link_start, link_words, card_of}
use Rattle.book.specs.declared.row.Link as words

-- The link that a value of the code is.
abbrev pub the_link : words.Link → Link
the_link l = record { place = l.place; low = l.low.value; high = l.high.value; number = l.number }

-- The links of a row: none where it is not live.
unfoldable pub links_in : List ℕ → List Link
links_in row = links_of (card_of row)

-- A row whose state says frozen; its other words stay.
abbrev pub frozen_row : List ℕ → List ℕ
frozen_row row = set row 0 frozen_state

-- A row with one link more, behind its last.
unfoldable pub link_added : Link → List ℕ → List ℕ
link_added l row = set (sets row (link_start (link_count row)) (link_words (l ∷ []))) 1 (link_count row + 1)
