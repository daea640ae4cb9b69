-- `list_to` meets its contract: the tests of the definition, the last of them by `end_of`.
use Rattle.std.proofs.Common.{◌∙◌}
use Rattle.saved_form.proofs.Fields.{list-short, list-test}
use Rattle.saved_form.proofs.field.list_to.Goals as goal

pub returns-then-s-at-lt-NUMBER : goal.returns-then-s-at-lt-NUMBER
returns-then-s-at-lt-NUMBER c = list-short _ _ c.if-s-at-lt-NUMBER.true

pub returns : goal.returns
returns c =
    list-test _ _ _ _ _ c.requires.1 c.if-s-at-lt-NUMBER.false
    (c.from-places.ensures ∙ c.get_u16.ensures) (c.from-count.ensures ∙ c.get_u16-2.ensures) c.end_of.ensures
