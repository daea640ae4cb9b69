-- `comes_out` meets its contract: the kind tells a delete mark, and the levels below whether it is dropped.
use Rattle.std.proofs.Common.{not, sym, ◌∙◌, ap}
use Rattle.table.specs.Entry.{entry_at}
use Rattle.book.specs.Head.{head_words}
use Rattle.compact_merge.specs.Merge.{store_in}
use Rattle.compact_merge.proofs.Drops.{value_out, mark-out, entry_key}
use Rattle.compact_merge.proofs.sift.comes_out.Goals as goal

pub returns-then-kind_at-ne-DELETE_MARK : goal.returns-then-kind_at-ne-DELETE_MARK
returns-then-kind_at-ne-DELETE_MARK c =
    let a = c.args in
    sym (value_out (store_in a.area.now a.cards.now a.lists.now (head_words a.head)) a.n a.area.now a.at
    (λ e. c.if-kind_at-ne-DELETE_MARK.true (c.kind_at.ensures ∙ e)))

pub returns : goal.returns
returns c =
    let a = c.args in
    let s = store_in a.area.now a.cards.now a.lists.now (head_words a.head) in
    let e = entry_at a.area.now a.at in
    ap not (c.drops_mark.ensures e (entry_key s a.n a.area.now a.at ∙ sym c.key_at.ensures))
    ∙ sym (mark-out s a.n a.area.now a.at (sym c.kind_at.ensures ∙ c.if-kind_at-ne-DELETE_MARK.false))
