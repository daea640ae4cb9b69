-- `card_to` meets its contract: the tests of the definition, the last of them by `end_of`.
use Rattle.std.proofs.Common.{◌∙◌}
use Rattle.saved_form.proofs.Fields.{card-short, card-test}
use Rattle.saved_form.proofs.field.card_to.Goals as goal

pub returns-then-s-at-lt-CARD_HEAD : goal.returns-then-s-at-lt-CARD_HEAD
returns-then-s-at-lt-CARD_HEAD c = card-short _ _ c.if-s-at-lt-CARD_HEAD.true

pub returns : goal.returns
returns c =
    card-test _ _ _ _ _ c.requires c.if-s-at-lt-CARD_HEAD.false
    (c.from-state.ensures ∙ c.get_u16.ensures) (c.from-count.ensures ∙ c.get_u16-2.ensures) c.end_of.ensures
