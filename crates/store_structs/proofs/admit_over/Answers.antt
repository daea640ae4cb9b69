-- `admit_over` meets its contract: another number of rows is refused by 1, and `admit` says the rest.
use Rattle.std.proofs.Common.{sym, ◌∙◌}
use Rattle.store_structs.proofs.Ways.{early-other, early-same}
use Rattle.store_structs.proofs.admit_over.Goals as goal

pub returns-then-rows-cards-clause-number : goal.returns-then-rows-cards-clause-number
returns-then-rows-cards-clause-number c = λ m w a k n l. early-other w m _ _ (λ e. c.if-rows-cards.true (sym n ∙ e ∙ k))

pub returns-clause-number : goal.returns-clause-number
returns-clause-number c = λ m w a k n l. c.admit.ensures.number m a k l ∙ early-same w m _ _ (n ∙ c.if-rows-cards.false ∙ sym k)
