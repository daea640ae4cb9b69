-- `link_at` meets its contract: the words of the link stand from its start on.
use mathlib.Core.Path.{◌≡◌, ap}
use Rattle.ldc.specs.Layout.{link_start, link_from, link_at}
use Rattle.book.proofs.row.link_at.Goals as goal

pub returns : goal.returns
unfolding link_at
returns c =
    let a = c.args in
    let e : _ ≡ link_start a.i = c.link_start-at.ensures in
    ap (link_from a.row.now) e
