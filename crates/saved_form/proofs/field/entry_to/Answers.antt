-- `entry_to` meets its contract: the tests of the definition, the last of them by `end_of`.
use Rattle.std.proofs.Common.{◌∙◌}
use Rattle.saved_form.proofs.Fields.{entry-short, entry-test}
use Rattle.saved_form.proofs.field.entry_to.Goals as goal

pub returns-then-s-at-lt-ENTRY_HEAD : goal.returns-then-s-at-lt-ENTRY_HEAD
returns-then-s-at-lt-ENTRY_HEAD c = entry-short _ _ c.if-s-at-lt-ENTRY_HEAD.true

pub returns : goal.returns
returns c =
    entry-test _ _ _ _ _ _ c.requires c.if-s-at-lt-ENTRY_HEAD.false (c.from-len.ensures ∙ c.length_at.ensures)
    c.kind_at.ensures c.entry_form-formed.ensures c.end_of.ensures
