-- `memory_to` meets its contract: the tests of the count, then the entries behind it.
use Rattle.std.proofs.Common.{sym, ◌∙◌, ap, List, ℕ}
use Rattle.saved_book.specs.Form.{entry_to}
use Rattle.saved_form.proofs.Fields.{entry-within}
use Rattle.saved_form.proofs.Whole.{memory-short, memory-many, memory-few}
use Rattle.saved_form.proofs.parts.memory_to.Goals as goal

pub returns-then-s-at-lt-NUMBER : goal.returns-then-s-at-lt-NUMBER
returns-then-s-at-lt-NUMBER c = memory-short _ _ c.if-s-at-lt-NUMBER.true

pub returns-then-n-gt-TABLE_LIMIT : goal.returns-then-n-gt-TABLE_LIMIT
returns-then-n-gt-TABLE_LIMIT c =
    memory-many _ _ _ c.requires c.if-s-at-lt-NUMBER.false (c.from-n.ensures ∙ c.get_u16.ensures) c.if-n-gt-TABLE_LIMIT.true

pub in_turn-requires-clause-within : goal.in_turn-requires-clause-within
in_turn-requires-clause-within c at end h t = entry-within _ at end (sym t)

pub returns : goal.returns
returns c =
    memory-few _ _ _ _ c.requires c.if-s-at-lt-NUMBER.false (c.from-n.ensures ∙ c.get_u16.ensures) c.if-n-gt-TABLE_LIMIT.false
    (c.in_turn.ensures (entry_to c.args.s.now) (λ p at r e h t. t ∙ ap (λ (x : List ℕ). entry_to x at) e))
