-- `add_link` meets its contract: four words behind the last link, and the count.
use mathlib.Core.Path.{ap}
use mathlib.Core.List.{[]}
use lib.ListN.{get_or, set}
use Rattle.ldc.specs.Layout.{link_count}
use Rattle.book.specs.Row.{the_link}
use Rattle.book.proofs.Rows.{link-stored}
use Rattle.book.proofs.row.add_link.Goals as goal

pub returns : goal.returns
unfolding link_count
returns c =
    let a = c.args in
    rw c.link_start-at.ensures (ap (set a.cards.now a.p) (link-stored (get_or a.cards.now a.p []) (the_link a.link)))
