-- `head_form` meets its contract: the tests of the definition, once the head can be read.
use Rattle.std.proofs.Common.{◌∙◌}
use Rattle.saved_form.proofs.Whole.{head-short, head-test}
use Rattle.saved_form.proofs.form.head_form.Goals as goal

pub returns-then-s-lt-CARDS : goal.returns-then-s-lt-CARDS
returns-then-s-lt-CARDS c = head-short _ c.if-s-lt-CARDS.true

pub returns : goal.returns
returns c =
    head-test _ _ _ _ _ _ c.if-s-lt-CARDS.false c.get_u32-whole.ensures
    c.get_u16-kind.ensures (c.from-places.ensures ∙ c.get_u16.ensures) c.mark_form.ensures c.mark_form-2.ensures
