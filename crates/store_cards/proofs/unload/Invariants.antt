-- The first p cards have the rows' words, the others are as they were.
use Rattle.std.proofs.Common.{◌≡◌}
use Rattle.store_cards.specs.Card.{rows_of}
use Rattle.store_cards.proofs.Words.{mixed}
use Rattle.store_cards.proofs.unload.Given as goal

abbrev pub invariant-loop-p : goal.invariant-loop-p
invariant-loop-p l = rows_of l.cards ≡ mixed l.p l.rows (rows_of l.initial.cards)
