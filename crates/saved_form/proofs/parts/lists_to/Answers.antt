-- `lists_to` meets its contract: the lists in turn, as the definition has them.
use Rattle.std.proofs.Common.{sym, ◌∙◌, ap, List, ℕ}
use Rattle.saved_book.specs.Form.{lists_to, list_to}
use Rattle.saved_form.proofs.Fields.{list-within}
use Rattle.saved_form.proofs.parts.lists_to.Goals as goal

pub in_turn-requires-clause-within : goal.in_turn-requires-clause-within
in_turn-requires-clause-within c at end h t = list-within _ at end (sym t)

pub returns : goal.returns
unfolding lists_to
returns c = c.in_turn.ensures (list_to c.args.s.now) (λ p at r e h t. t ∙ ap (λ (x : List ℕ). list_to x at) e)
