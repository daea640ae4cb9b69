-- The first p rows are the cards' words, the others as they were.
use Rattle.std.proofs.Common.{◌≡◌}
use Rattle.store_cards.specs.Card.{rows_of}
use Rattle.store_cards.proofs.Words.{mixed}
use Rattle.store_cards.proofs.load.Given as goal

abbrev pub invariant-loop-p : goal.invariant-loop-p
invariant-loop-p l = l.rows ≡ mixed l.p (rows_of l.cards) l.initial.rows
