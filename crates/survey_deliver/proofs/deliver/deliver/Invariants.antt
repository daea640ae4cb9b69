-- The loop of `deliver`: so far the list is served, at a stop between two pieces, the rows are the cards' words, and the answers were
-- handed on.
use Rattle.std.proofs.Common.{ℕ, ◌-◌, ◌≡◌, length}
use Rattle.std.specs.Io.KnownBytes.{Appends}
use Rattle.book.specs.Pieces.{lent}
use Rattle.store_cards.specs.Card.{rows_of}
use Rattle.serve_list.specs.Ran.{requests_of}
use Rattle.survey_deliver.specs.Whole.{served_first, Reached, piece_room, served_after}
use Rattle.survey_deliver.proofs.deliver.deliver.Given as goal

abbrev pub invariant-loop-from : goal.invariant-loop-from
invariant-loop-from g l =
    (Reached l.list (lent l.area l.rows l.lists l.head l.memory) l.from × ((k : ℕ) × (l.from.served ≡ served_after l.list k)))
    × ((length l.answer ≡ piece_room) × ((l.rows ≡ rows_of l.cards)
    × Appends (g.W.Write.contents l.initial.out) (g.W.Write.contents l.out) (served_first l.list l.from.served).bytes))

abbrev pub decreases-loop-from : goal.decreases-loop-from
decreases-loop-from g l = length (requests_of l.list) - l.from.served
